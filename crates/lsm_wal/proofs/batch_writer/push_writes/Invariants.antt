use Rattle.lsm_wal.proofs.WritingLaws.{Written}
use Rattle.lsm_wal.proofs.batch_writer.push_writes.Given as goal

abbrev pub invariant-loop-write : goal.invariant-loop-write
invariant-loop-write l = Written l.fn.out.items l.writes l.write-index l.out.items
