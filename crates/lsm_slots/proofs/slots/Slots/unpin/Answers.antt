use Rattle.std.proofs.Common.{◌≡◌, ◌+◌, ◌-◌, ◌<◌, List, Option, sym, subst, ap, ◌∙◌, arith}
use Rattle.std.specs.Prelude.{slice_get}
use Rattle.std.specs.Arc.{arc_value}
use Rattle.lsm_slots.specs.Slots.{AreSlots, Epoch, HasEpoch, PinsMove, Slotted}
use Rattle.lsm_slots.proofs.SlotLaws.{pins_moved, same_epoch, slots_pinned}
use Rattle.lsm_slots.proofs.slots.Slots.unpin.Goals as goal

pub invariant_of-self : goal.invariant_of-self
invariant_of-self g c =
    let s : Slotted = record { board = c.self.inside.publisher; version = arc_value c.self.inside.current; epochs = c.self.inside.epochs.items } in
    let slot = c.in-Some.slot in
    let e : Epoch = c.in-Some-pins_at.ensures.some.0 in
    let had : HasEpoch s slot e = ap (λ es. slice_get es slot) (sym c.as_slice.ensures.value) ∙ c.in-Some-pins_at.ensures.some.1 in
    (c.self.invariant.0, subst (λ (es : List (Option Epoch)). AreSlots (record s { epochs = es })) (sym (c.set_pins.ensures e had)) (slots_pinned s slot (c.in-Some-pins_at.pins - 1) e c.self.invariant.1 had))

pub returns-clause-unpinned : goal.returns-clause-unpinned
returns-clause-unpinned g c pinned =
    let s : Slotted = record { board = c.self.inside.publisher; version = arc_value c.self.inside.current; epochs = c.self.inside.epochs.items } in
    let slot = c.in-Some.slot in
    let pins = c.in-Some-pins_at.pins in
    let e : Epoch = c.in-Some-pins_at.ensures.some.0 in
    let had : HasEpoch s slot e = ap (λ es. slice_get es slot) (sym c.as_slice.ensures.value) ∙ c.in-Some-pins_at.ensures.some.1 in
    let found = c.in-Some.ensures.some in
    let there : HasEpoch s slot found.0 = ap (λ (v : Slotted). slice_get v.epochs slot) c.self.view_is ∙ found.1 in
    let same : e ≡ found.0 = same_epoch s slot e found.0 had there in
    let some : 0 < e.pins = subst (λ (x : Epoch). 0 < x.pins) (sym same) found.3 in
    let from : e.pins ≡ pins - 1 + 1 = (let is = c.in-Some-pins_at.ensures.some.2 in omega arith) in (
      pins - 1,
      subst (λ (v : Slotted). PinsMove v (record s { epochs = c.set_pins.new.epochs.items }) c.args.id (pins - 1 + 1) (pins - 1)) c.self.view_is
          (pins_moved s slot c.args.id (pins - 1 + 1) (pins - 1) e c.set_pins.new.epochs.items had (ap (λ (x : Epoch). x.id) same ∙ found.2) from (c.set_pins.ensures e had)),
    )
