use Rattle.std.proofs.Common.{◌+◌, List, Option, Some, sym, subst, ap, ◌∙◌}
use Rattle.std.specs.Prelude.{slice_get, slice_set}
use Rattle.std.specs.Arc.{arc_value}
use Rattle.lsm_slots.specs.Slots.{AreSlots, Epoch, HasEpoch, PinsMove, Slotted}
use Rattle.lsm_slots.proofs.SlotLaws.{current_epoch, pins_moved, slots_pinned}
use Rattle.lsm_slots.proofs.slots.Slots.pin.Goals as goal

pub invariant_of-self : goal.invariant_of-self
invariant_of-self g c =
    let s : Slotted = record { board = c.self.inside.publisher; version = arc_value c.self.inside.current; epochs = c.self.inside.epochs.items } in
    let slot = c.current-id.result.1 in
    let e : Epoch = c.in-Some.ensures.some.0 in
    let had : HasEpoch s slot e = ap (λ es. slice_get es slot) (sym c.as_slice.ensures.value) ∙ c.in-Some.ensures.some.1 in
    (c.self.invariant.0, subst (λ (es : List (Option Epoch)). AreSlots (record s { epochs = es })) (sym (c.set_pins.ensures e had)) (slots_pinned s slot c.in-Some-one_more.more e c.self.invariant.1 had))

pub returns-clause-some : goal.returns-clause-some
returns-clause-some g c =
    let s : Slotted = record { board = c.self.inside.publisher; version = arc_value c.self.inside.current; epochs = c.self.inside.epochs.items } in
    let slot = c.current-id.result.1 in
    let e : Epoch = c.in-Some.ensures.some.0 in
    let had : HasEpoch s slot e = ap (λ es. slice_get es slot) (sym c.as_slice.ensures.value) ∙ c.in-Some.ensures.some.1 in
    let its = current_epoch s slot e c.self.invariant.1 c.current-id.ensures.current.1 had ∙ sym c.current-id.ensures.current.0 in
    let lt = c.in-Some-one_more.ensures.some.1 in (
      c.current-id.ensures.current.0 ∙ ap (λ (v : Slotted). v.board.knows.id) c.self.view_is,
      (
        c.in-Some.pins,
        lt,
        subst (λ (v : Slotted). PinsMove v (record s { epochs = c.set_pins.new.epochs.items }) c.current-id.result.0 c.in-Some.pins (c.in-Some.pins + 1)) c.self.view_is
            (pins_moved s slot c.current-id.result.0 c.in-Some.pins (c.in-Some.pins + 1) e c.set_pins.new.epochs.items had its c.in-Some.ensures.some.2
            (c.set_pins.ensures e had ∙ ap (λ n. slice_set s.epochs slot (Some (record e { pins = n }))) c.in-Some-one_more.ensures.some.0)),
      ),
    )
