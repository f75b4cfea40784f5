use Rattle.std.proofs.Common.{◌≡◌, take}
use Rattle.lsm_live.specs.Reserving.{reserved_jobs}
use Rattle.lsm_live.proofs.live_jobs.LiveJobs.reservations.Given as goal

abbrev pub invariant-loop-one : goal.invariant-loop-one
invariant-loop-one g l = l.reservations.items ≡ reserved_jobs (take l.one-index l.one-items)
