use Rattle.std.proofs.Common.{◌≡◌, ◌++◌}
use Rattle.std.specs.Vec.Iter.{into_iter_items}
use Rattle.lsm_wal.specs.WriteLog.{writes_of}
use Rattle.lsm_wal.proofs.folding.joined.Given as goal

abbrev pub invariant-loop-batch : goal.invariant-loop-batch
invariant-loop-batch l = l.writes.items ++ writes_of (into_iter_items l.batch-iterator)
    ≡ writes_of l.fn.log.batches
