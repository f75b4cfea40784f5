use Rattle.std.proofs.KnownBytes.{Appends-nil}
use Rattle.lsm_cmd_repair.specs.Repaired.{left_text}
use Rattle.lsm_cmd_repair.proofs.RunLaws.{lines_all, lines_more}
use Rattle.lsm_cmd_repair.proofs.reply.write_lefts.Goals as goal

pub loop-one-init : goal.loop-one-init
loop-one-init g c = Appends-nil (g.O.Write.contents c.args.out.now)

pub loop-one-preserved : goal.loop-one-preserved
loop-one-preserved g c =
    lines_more left_text c.args.left.now c.loop-one.one-index _ (g.O.Write.contents c.args.out.now)
    (g.O.Write.contents c.loop-one.out) (g.O.Write.contents c.write_left.new.out)
    c.loop-one-test.true c.loop-one.invariant c.in_ok-write_left.ensures

pub returns : goal.returns
returns g c =
    lines_all left_text c.args.left.now c.loop-one.one-index (g.O.Write.contents c.args.out.now)
    (g.O.Write.contents c.loop-one.out) c.loop-one-test.false c.loop-one.invariant
