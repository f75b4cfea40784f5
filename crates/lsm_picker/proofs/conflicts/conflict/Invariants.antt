use Rattle.std.proofs.Common.{take}
use Rattle.lsm_picker.proofs.Conflicting.{IsFound}
use Rattle.lsm_picker.proofs.conflicts.conflict.Given as goal

abbrev pub invariant-loop-job : goal.invariant-loop-job
invariant-loop-job g l = IsFound l.plan (take l.job-index l.reservations) l.least
