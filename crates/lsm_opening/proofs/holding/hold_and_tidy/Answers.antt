use Rattle.std.proofs.Common.{inr, refl}
use Rattle.lsm_opening.proofs.holding.hold_and_tidy.Goals as goal

pub returns-in-Ok-clause-held : goal.returns-in-Ok-clause-held
returns-in-Ok-clause-held g c = (_, c.in_ok-hold.ensures.held, c.in-Ok.ensures.tidied)

pub returns-in-Err-clause-refused : goal.returns-in-Err-clause-refused
returns-in-Err-clause-refused g c = inr (_, c.in_ok-hold.ensures.held, (c.in-Err.fault, refl, c.in-Err.ensures.refused, c.in-Err.ensures.reads))
