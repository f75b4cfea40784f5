use Rattle.lsm_crash.proofs.Runs.{crash_recovers}
use Rattle.lsm_crash.proofs.laws.crashes_leave_before_or_after.Goals as goal

pub returns : goal.returns
returns c es o d mid e w u found i g ok cut l = crash_recovers es o d mid e w u found i g ok cut l
