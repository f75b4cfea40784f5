use Rattle.std.proofs.KnownBytes.{Appends-nil}
use Rattle.lsm_cmd_repair.specs.Repaired.{note_text}
use Rattle.lsm_cmd_repair.proofs.RunLaws.{lines_all, lines_more}
use Rattle.lsm_cmd_repair.proofs.reply.write_each.Goals as goal

pub loop-log-init : goal.loop-log-init
loop-log-init g c = Appends-nil (g.E.Write.contents c.args.err.now)

pub loop-log-preserved : goal.loop-log-preserved
loop-log-preserved g c =
    lines_more note_text c.args.logs.now c.loop-log.log-index _ (g.E.Write.contents c.args.err.now)
    (g.E.Write.contents c.loop-log.err) (g.E.Write.contents c.write_note.new.err)
    c.loop-log-test.true c.loop-log.invariant c.in_ok-write_note.ensures

pub returns : goal.returns
returns g c =
    lines_all note_text c.args.logs.now c.loop-log.log-index (g.E.Write.contents c.args.err.now)
    (g.E.Write.contents c.loop-log.err) c.loop-log-test.false c.loop-log.invariant
