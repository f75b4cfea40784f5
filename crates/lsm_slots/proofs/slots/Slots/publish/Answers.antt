use Rattle.std.proofs.Common.{◌≡◌, ℕ, Some, None, sym, subst, ap, ◌∙◌}
use Rattle.std.specs.Prelude.{slice_get, slice_set}
use Rattle.std.specs.Arc.{arc_value}
use Rattle.lsm_slots.specs.Slots.{AreSlots, Epoch, Slotted}
use Rattle.lsm_slots.proofs.SlotLaws.{slots_published}
use Rattle.lsm_slots.proofs.slots.Slots.publish.Goals as goal

pub invariant_of-self : goal.invariant_of-self
invariant_of-self g c =
    let s : Slotted = record { board = c.self.inside.publisher; version = arc_value c.self.inside.current; epochs = c.self.inside.epochs.items } in
    let made : Epoch = record { id = c.in-Ok.id; version = arc_value c.args.second; pins = 0 } in
    let free : slice_get s.epochs c.args.slot ≡ Some None = subst (λ (v : Slotted). slice_get v.epochs c.args.slot ≡ Some None) (sym c.self.view_is) c.requires.free in
    let done : AreSlots record { board = c.publish.new.self; version = arc_value c.args.first; epochs = slice_set s.epochs c.args.slot (Some made) }
    = slots_published s c.publish.new.self c.args.slot c.in-Ok.id (arc_value c.args.first) made c.self.invariant.1 free c.in-Ok.ensures.slots c.in-Ok.ensures.current.1 c.in-Ok.ensures.current.2 c.in-Ok.ensures.current.0
    (ap (λ v. record { id = c.in-Ok.id; version = v; pins = 0 }) (sym c.requires.one)) in
    (c.publish.ensures.board ∙ c.self.invariant.0, subst (λ (i : ℕ). AreSlots record { board = c.publish.new.self; version = arc_value c.args.first; epochs = slice_set s.epochs i (Some made) }) (sym c.from.ensures) done)
