use Rattle.std.proofs.Common.{take, map}
use Rattle.lsm_manifest.specs.EditWriting.{added_field}
use Rattle.lsm_manifest.proofs.EditWriterLaws.{adds_none, adds_next, adds_front}
use Rattle.lsm_manifest.proofs.edit_writer.push_added.Goals as goal

pub loop-file-init : goal.loop-file-init
loop-file-init c = adds_none c.args.out.now.items

pub returns-in_err-push-clause-front : goal.returns-in_err-push-clause-front
returns-in_err-push-clause-front c =
    adds_front c.args.out.now.items (map added_field (take c.loop-file.file-index c.args.added.now)) c.loop-file.out.items c.push.new.out.items _ _ c.args.out.now.ok.0 c.loop-file.out.ok.0 c.loop-file.invariant c.in_err-push.ensures.front

pub loop-file-preserved : goal.loop-file-preserved
loop-file-preserved c =
    adds_next added_field c.args.out.now.items c.args.added.now c.loop-file.file-index c.file-item.result c.loop-file.out.items c.push.new.out.items
    c.loop-file-test.true c.file-item.is c.loop-file.invariant c.in_ok-push.ensures.ok c.in_ok-push.ensures.spelled
