use Rattle.std.proofs.Common.{true, false, sym, ◌∙◌}
use Rattle.std.proofs.lemmas.Bool.{eq-eqb, ne_eqb}
use Rattle.lsm_manifest.proofs.LastLaws.{pointer_in-next, pointer_in-none}
use Rattle.lsm_manifest.proofs.last_values.pointer_of.Goals as goal

pub loop-pointer-init : goal.loop-pointer-init
loop-pointer-init c = sym (pointer_in-none c.args.level)

pub loop-pointer-preserved-then-pointer-level : goal.loop-pointer-preserved-then-pointer-level
loop-pointer-preserved-then-pointer-level c =
    c.loop-pointer.invariant
    ∙ sym (pointer_in-next c.args.level c.args.pointers.now c.loop-pointer.pointer-index c.pointer-item.result c.loop-pointer-test.true c.pointer-item.is false
    (ne_eqb c.pointer-item.result.level c.args.level c.if-pointer-level.true))

pub loop-pointer-preserved : goal.loop-pointer-preserved
loop-pointer-preserved c =
    sym (pointer_in-next c.args.level c.args.pointers.now c.loop-pointer.pointer-index c.pointer-item.result c.loop-pointer-test.true c.pointer-item.is true
    (eq-eqb c.pointer-item.result.level c.args.level c.if-pointer-level.false))
