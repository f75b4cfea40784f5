use Rattle.lsm_crash.proofs.Held.{held_gap, settled_held}
use Rattle.lsm_crash.proofs.Runs.{cut_held}
use Rattle.lsm_crash.proofs.laws.refused_operations_leave_before_or_after.Goals as goal

pub returns-clause-refused : goal.returns-clause-refused
returns-clause-refused c = λ o d e w i ok h. cut_held d e w o i ok h

pub returns-clause-settled : goal.returns-clause-settled
returns-clause-settled c = settled_held

pub returns-clause-others : goal.returns-clause-others
returns-clause-others c = λ known d e i g. held_gap known d e g i
