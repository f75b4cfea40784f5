use Rattle.std.proofs.Common.{◌≡◌, ◌-◌, ◌∷◌, List, Option, Some, None, replicate, sym, subst, ap, ◌∙◌}
use Rattle.std.specs.Arc.{arc_value}
use Rattle.lsm_version.specs.Versions.{Levels}
use Rattle.lsm_slots.specs.Slots.{AreSlots, Epoch, first_slots}
use Rattle.lsm_slots.proofs.SlotLaws.{slots_first}
use Rattle.lsm_slots.proofs.slots.Slots.new.Goals as goal

pub invariant_of-result : goal.invariant_of-result
invariant_of-result g c =
    let v : Levels = arc_value c.in_ok-current.current in
    let law : AreSlots (first_slots c.args.publisher c.args.slots v) = slots_first c.args.publisher c.args.slots c.requires.fresh.0 c.requires.fresh.1 v c.requires.slots.0 c.requires.slots.1 c.requires.fresh.2 in
    let es : c.in_ok-epochs.epochs.items ≡ (first_slots c.args.publisher c.args.slots v).epochs =
    c.in_ok-epochs.ensures ∙ (ap (λ i. let e : Epoch = record { id = i; version = arc_value c.in_ok-try_clone.field-0; pins = 0 } in Some e ∷ replicate (c.args.slots - 1) None) c.current-id.ensures.current.0
    ∙ ap (λ (w : Levels). let e : Epoch = record { id = c.args.publisher.knows.id; version = w; pins = 0 } in Some e ∷ replicate (c.args.slots - 1) None) c.in_ok-try_clone.ensures) in
    (c.requires.board, subst (λ (l : List (Option Epoch)). AreSlots record { board = c.args.publisher; version = v; epochs = l }) (sym es) law)
