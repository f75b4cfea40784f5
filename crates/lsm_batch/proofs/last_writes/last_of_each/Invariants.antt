use Rattle.std.proofs.Common.{length}
use Rattle.lsm_batch.proofs.LastLaws.{HasKept}
use Rattle.lsm_batch.proofs.last_writes.last_of_each.Given as goal

abbrev pub invariant-writes : goal.invariant-writes
invariant-writes l = HasKept l.fn.writes.items l.left.items l.batch

abbrev pub decreases-writes : goal.decreases-writes
decreases-writes l = length l.left.items
