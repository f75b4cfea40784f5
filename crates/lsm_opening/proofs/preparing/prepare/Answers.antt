use Rattle.std.proofs.Common.{inr}
use Rattle.lsm_opening.proofs.Looked.{locks_alone, locks_then}
use Rattle.lsm_opening.proofs.TidyLaws.{on_err}
use Rattle.lsm_opening.proofs.preparing.prepare.Goals as goal

pub returns-in_err-hold-clause-unchanged : goal.returns-in_err-hold-clause-unchanged
returns-in_err-hold-clause-unchanged g c = on_err c.from_residual.result _ (locks_alone c.in_err-hold.field-0.0 _ _ c.in_err-hold.ensures.refused)

pub returns-in-Ok-clause-prepared : goal.returns-in-Ok-clause-prepared
returns-in-Ok-clause-prepared g c = (_, c.in_ok-hold.ensures.held, c.in-Ok.ensures.prepared)

pub returns-in-Err-clause-refused : goal.returns-in-Err-clause-refused
returns-in-Err-clause-refused g c = inr (_, c.in_ok-hold.ensures.held, c.in-Err.ensures.refused)

pub returns-in-Err-clause-unchanged : goal.returns-in-Err-clause-unchanged
returns-in-Err-clause-unchanged g c = locks_then _ _ _ c.in_ok-hold.ensures.held c.in-Err.ensures.reads
