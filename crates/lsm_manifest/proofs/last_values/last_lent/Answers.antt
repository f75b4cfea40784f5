use Rattle.std.proofs.Common.{sym, ◌∙◌}
use Rattle.lsm_manifest.proofs.LastLaws.{last_by-none, last_pointer-next}
use Rattle.lsm_manifest.proofs.last_values.last_lent.Goals as goal

pub loop-edit-init : goal.loop-edit-init
loop-edit-init c = sym (last_by-none _)

pub loop-edit-preserved-in_default : goal.loop-edit-preserved-in_default
loop-edit-preserved-in_default c =
    let none = rw c.as_slice.ensures at c.in_default.ensures in
    c.loop-edit.invariant ∙ sym (last_pointer-next c.args.level c.args.edits.now c.loop-edit.edit-index c.edit-item.result _ c.loop-edit-test.true c.edit-item.is (sym none))

pub loop-edit-preserved : goal.loop-edit-preserved
loop-edit-preserved c =
    let some = rw c.as_slice.ensures at c.in-Some.ensures in
    sym (last_pointer-next c.args.level c.args.edits.now c.loop-edit.edit-index c.edit-item.result _ c.loop-edit-test.true c.edit-item.is (sym some))
