use Rattle.std.proofs.Common.{◌≡◌, ◌++◌, take}
use Rattle.lsm_live.specs.Booked.{drawn_numbers}
use Rattle.lsm_live.proofs.live_jobs.LiveJobs.push_drawn.Given as goal

abbrev pub invariant-loop-one : goal.invariant-loop-one
invariant-loop-one g l = l.numbers.items ≡ l.initial.numbers.items ++ drawn_numbers (take l.one-index l.one-items)
