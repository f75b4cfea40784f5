use Rattle.std.proofs.Common.{◌≡◌, ◌/◌, length}
use Rattle.lsm_block.specs.Reading.{words}
use Rattle.lsm_block.specs.Walking.{fault_at_stop}
use Rattle.lsm_block.proofs.walk.fault_where_stopped.Given as goal

abbrev pub invariant-loop-rest : goal.invariant-loop-rest
invariant-loop-rest l = fault_at_stop l.start (words (length l.rest / 4) l.rest) ≡ fault_at_stop l.start (words (length l.offsets / 4) l.offsets)

abbrev pub decreases-loop-rest : goal.decreases-loop-rest
decreases-loop-rest l = length l.rest
