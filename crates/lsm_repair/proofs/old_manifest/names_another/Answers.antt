use Rattle.lsm_repair.proofs.OldLaws.{names_end, names_here, names_more}
use Rattle.lsm_repair.proofs.old_manifest.names_another.Goals as goal

pub loop-edit-preserved : goal.loop-edit-preserved
loop-edit-preserved c =
    names_more c.args.edits.now c.loop-edit.edit-index c.edit-item.result c.loop-edit-test.true
    c.edit-item.is c.loop-edit.invariant c.if-names_other.ensures

pub returns-then-names_other : goal.returns-then-names_other
returns-then-names_other c =
    names_here c.args.edits.now c.loop-edit.edit-index c.edit-item.result c.loop-edit-test.true
    c.edit-item.is c.if-names_other.ensures

pub returns : goal.returns
returns c =
    names_end c.args.edits.now c.loop-edit.edit-index c.loop-edit-test.false
    c.loop-edit.invariant
