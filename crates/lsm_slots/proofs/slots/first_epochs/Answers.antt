use Rattle.std.proofs.Common.{◌-◌, ◌∷◌, ◌++◌, ◌∙◌, [], Some, None, replicate, ap, arith}
use Rattle.std.specs.Arc.{arc_value}
use Rattle.std.proofs.lemmas.List.{replicate_more}
use Rattle.lsm_slots.proofs.slots.first_epochs.Goals as goal

pub loop-slot-preserved : goal.loop-slot-preserved
loop-slot-preserved g c =
    let n = c.loop-slot.slot in
    let at_least = c.loop-slot.auto.slot in
    c.in_ok-push-2.ensures.items ∙ (ap (λ l. l ++ None ∷ []) c.loop-slot.invariant
    ∙ ap (λ l. Some record { id = c.args.id; version = arc_value c.args.version; pins = 0 } ∷ l) (replicate_more (n - 1) None ∙ ap (λ k. replicate k None) (omega arith)))
