use Rattle.std.proofs.Common.{arith}
use Rattle.lsm_wal.proofs.WritingLaws.{written_first, written_more, written_all}
use Rattle.lsm_wal.proofs.batch_writer.push_writes.Goals as goal

pub loop-write-init : goal.loop-write-init
loop-write-init c = written_first c.args.out.now.items c.args.writes.now

pub loop-write-preserved : goal.loop-write-preserved
loop-write-preserved c =
    written_more c.args.out.now.items c.args.writes.now c.loop-write.write-index c.write-item.result
    c.loop-write.out.items c.push_write.new.out.items
    c.loop-write-test.true c.write-item.is c.loop-write.invariant c.in_ok-push_write.ensures

pub returns : goal.returns
returns c = written_all c.args.out.now.items c.args.writes.now c.loop-write.write-index
    c.loop-write.out.items (omega arith) c.loop-write.invariant
