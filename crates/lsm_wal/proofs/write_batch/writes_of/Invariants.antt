use Rattle.std.proofs.Common.{length}
use Rattle.lsm_wal.specs.Reading.{writes_at}
use Rattle.lsm_wal.proofs.WriteLoop.{Goes}
use Rattle.lsm_wal.proofs.write_batch.writes_of.Given as goal

abbrev pub invariant-loop : goal.invariant-loop
invariant-loop l = Goes (writes_at (length l.text) l.text) (length l.text) l.counter l.writes.items
    l.rest
