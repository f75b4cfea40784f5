use Rattle.std.proofs.Common.{false, [], length}
use Rattle.lsm_manifest.specs.LogReading.{record_at}
use Rattle.lsm_manifest.proofs.LogLoop.{Goes}
use Rattle.lsm_manifest.proofs.log.next_record.Given as goal

abbrev pub invariant-loop : goal.invariant-loop
invariant-loop l = Goes (record_at (length l.text) l.total false [] l.text) (length l.text) l.counter l.total l.begun l.whole.items l.rest
