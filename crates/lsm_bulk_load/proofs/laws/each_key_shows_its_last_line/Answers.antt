use Rattle.lsm_bulk_load.proofs.AnswerLaws.{cut_answer}
use Rattle.lsm_bulk_load.proofs.laws.each_key_shows_its_last_line.Goals as goal

pub returns : goal.returns
returns c = cut_answer
