use Rattle.lsm_lines.proofs.CutLaws.{cut_last}
use Rattle.lsm_lines.proofs.laws.a_cut_keeps_the_last.Goals as goal

pub returns : goal.returns
returns c = cut_last
