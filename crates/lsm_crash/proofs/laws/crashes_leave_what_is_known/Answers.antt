use Rattle.lsm_crash.proofs.Held.{held_recovers}
use Rattle.lsm_crash.proofs.laws.crashes_leave_what_is_known.Goals as goal

pub returns : goal.returns
returns c = λ known d found i l. held_recovers d known found i l
