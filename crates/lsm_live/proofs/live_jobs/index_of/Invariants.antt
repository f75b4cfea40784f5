use Rattle.std.proofs.Common.{◌≡◌, take}
use Rattle.lsm_codec.specs.Lists.{Has}
use Rattle.lsm_live.specs.Booked.{Booked}
use Rattle.lsm_live.proofs.live_jobs.index_of.Given as goal

abbrev pub invariant-loop-i : goal.invariant-loop-i
invariant-loop-i g l = (b : Booked) → Has (take l.i l.jobs) b → b.work.ticket ≡ l.ticket → ⊥
