use Rattle.lsm_import.proofs.AnswerLaws.{copy_answers, source_answers}
use Rattle.lsm_import.proofs.laws.copies_answer.Goals as goal

pub returns : goal.returns
returns c = record { copy = copy_answers; source = source_answers }
