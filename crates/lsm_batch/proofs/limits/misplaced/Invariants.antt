use Rattle.lsm_batch.specs.Batches.{KeysRise}
use Rattle.lsm_batch.proofs.limits.misplaced.Given as goal

abbrev pub invariant-loop-i : goal.invariant-loop-i
invariant-loop-i l = KeysRise l.i l.writes
