use Rattle.std.proofs.Common.{take}
use Rattle.lsm_codec.specs.Lists.{Has}
use Rattle.lsm_live.specs.Booked.{Booked}
use Rattle.lsm_live.specs.Results.{Awaits}
use Rattle.lsm_live.proofs.live_jobs.LiveJobs.is_live_result.Given as goal

abbrev pub invariant-loop-one : goal.invariant-loop-one
invariant-loop-one g l = (b : Booked) → Has (take l.one-index l.one-items) b → Awaits b l.done → ⊥
