use Rattle.std.proofs.Common.{length}
use Rattle.lsm_live.specs.Booked.{AreIncreasing}
use Rattle.lsm_live.proofs.live_result.are_increasing.Given as goal

abbrev pub invariant-loop-rest : goal.invariant-loop-rest
invariant-loop-rest l = record {
  from : AreIncreasing l.numbers → AreIncreasing l.rest;
  to : AreIncreasing l.rest → AreIncreasing l.numbers;
}

abbrev pub decreases-loop-rest : goal.decreases-loop-rest
decreases-loop-rest l = length l.rest
