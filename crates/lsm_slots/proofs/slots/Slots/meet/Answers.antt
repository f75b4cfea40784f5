use Rattle.std.proofs.Common.{◌≡◌, ◌++◌, Some, sym, ap, ◌∙◌}
use Rattle.std.specs.Prelude.{slice_get}
use Rattle.lsm_version.specs.Versions.{numbers_in}
use Rattle.std.specs.Arc.{arc_value}
use Rattle.lsm_pins.specs.declared.view.View.{View}
use Rattle.lsm_slots.specs.Slots.{AreSlots, Slotted}
use Rattle.lsm_slots.proofs.SlotLaws.{epoch_of, noted, slots_noted}
use Rattle.lsm_slots.proofs.slots.Slots.meet.Goals as goal

pub invariant_of-self-in_err-push_slot : goal.invariant_of-self-in_err-push_slot
invariant_of-self-in_err-push_slot g c =
    let s : Slotted = record { board = c.self.inside.publisher; version = arc_value c.self.inside.current; epochs = c.self.inside.epochs.items } in
    let said = c.in-Some.ensures.publisher in
    (c.meet.ensures.boards.0 ∙ c.self.invariant.0, slots_noted s c.meet.new.self c.self.invariant.1 (ap (λ (v : View). v.id) said) (ap (λ (v : View). v.slot) said) c.meet.ensures.slots)

pub invariant_of-self-2 : goal.invariant_of-self-2
invariant_of-self-2 g c =
    let s : Slotted = record { board = c.self.inside.publisher; version = arc_value c.self.inside.current; epochs = c.self.inside.epochs.items } in
    let said = c.in-Some.ensures.publisher in
    (c.meet.ensures.boards.0 ∙ c.self.invariant.0, slots_noted s c.meet.new.self c.self.invariant.1 (ap (λ (v : View). v.id) said) (ap (λ (v : View). v.slot) said) c.meet.ensures.slots)

pub returns-clause-some : goal.returns-clause-some
returns-clause-some g c =
    let s : Slotted = record { board = c.self.inside.publisher; version = arc_value c.self.inside.current; epochs = c.self.inside.epochs.items } in
    let said = c.in-Some.ensures.publisher in
    let law : AreSlots (noted s c.meet.new.self) = slots_noted s c.meet.new.self c.self.invariant.1 (ap (λ (v : View). v.id) said) (ap (λ (v : View). v.slot) said) c.meet.ensures.slots in
    let r = epoch_of (noted s c.meet.new.self) c.in-Some.slot c.in-Some.field-0-0 law c.in-Some.ensures.in_use in
    let at : slice_get c.as_slice.result.now c.in-Some.slot ≡ Some (Some r.0) = ap (λ es. slice_get es c.in-Some.slot) c.as_slice.ensures.value ∙ r.1 in
    (c.in-Some.slot, c.in-Some.field-0-0, r.0, sym c.in-Some.ensures.held, r.1, r.2, c.in_ok-push_slot.ensures r.0 at ∙ ap (λ l. l ++ numbers_in r.0.version) c.new-numbers.ensures.items)
