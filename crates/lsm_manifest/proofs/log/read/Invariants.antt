use Rattle.std.proofs.Common.{length}
use Rattle.lsm_manifest.specs.LogReading.{records_at}
use Rattle.lsm_manifest.proofs.LogLoop.{GoesOver}
use Rattle.lsm_manifest.proofs.log.read.Given as goal

abbrev pub invariant-loop : goal.invariant-loop
invariant-loop l = GoesOver (records_at (length l.bytes) (length l.bytes) l.bytes) (length l.bytes) l.counter (length l.bytes) l.records.items l.rest
