use Rattle.lsm_wal.proofs.BatchLoop.{Goes}
use Rattle.lsm_wal.proofs.write_log.batches_of.Given as goal

abbrev pub invariant-loop-record : goal.invariant-loop-record
invariant-loop-record l = Goes l.records l.record-index l.least l.batches.items
