use Rattle.std.proofs.Common.{inr}
use Rattle.lsm_opening.proofs.starting.open.Goals as goal

pub returns-in-Err-clause-refused : goal.returns-in-Err-clause-refused
returns-in-Err-clause-refused g c = inr (rw c.in_ok-parts.ensures.options at c.in-Err.ensures.refused)
