use Rattle.std.proofs.Common.{take, map}
use Rattle.lsm_manifest.specs.EditWriting.{pointer_field}
use Rattle.lsm_manifest.proofs.EditWriterLaws.{adds_none, adds_next, adds_front}
use Rattle.lsm_manifest.proofs.edit_writer.push_pointers.Goals as goal

pub loop-pointer-init : goal.loop-pointer-init
loop-pointer-init c = adds_none c.args.out.now.items

pub returns-in_err-push-clause-front : goal.returns-in_err-push-clause-front
returns-in_err-push-clause-front c =
    adds_front c.args.out.now.items (map pointer_field (take c.loop-pointer.pointer-index c.args.pointers.now)) c.loop-pointer.out.items c.push.new.out.items _ _ c.args.out.now.ok.0 c.loop-pointer.out.ok.0 c.loop-pointer.invariant c.in_err-push.ensures.front

pub loop-pointer-preserved : goal.loop-pointer-preserved
loop-pointer-preserved c =
    adds_next pointer_field c.args.out.now.items c.args.pointers.now c.loop-pointer.pointer-index c.pointer-item.result c.loop-pointer.out.items c.push.new.out.items
    c.loop-pointer-test.true c.pointer-item.is c.loop-pointer.invariant c.in_ok-push.ensures.ok c.in_ok-push.ensures.spelled
