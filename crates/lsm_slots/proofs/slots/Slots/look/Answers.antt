use Rattle.std.proofs.Common.{Option, None, List, sym, ◌∙◌, subst, ap}
use Rattle.std.specs.Prelude.{slice_get, slice_set, if◌then◌else◌}
use Rattle.std.specs.Arc.{arc_value}
use Rattle.lsm_pins.specs.View.{slot_ids}
use Rattle.lsm_slots.specs.Slots.{AreSlots, Epoch, Looked, MayFree, Slotted}
use Rattle.lsm_slots.proofs.Elements.{set_else}
use Rattle.lsm_slots.proofs.SlotLaws.{looked_freed, slots_freed}
use Rattle.lsm_slots.proofs.slots.Slots.look.Goals as goal

pub invariant_of-self-2 : goal.invariant_of-self-2
invariant_of-self-2 g c =
    let s : Slotted = record { board = c.self.inside.publisher; version = arc_value c.self.inside.current; epochs = c.self.inside.epochs.items } in
    let k = c.look.new.self in
    let yes = c.if-not-look.false in (
      c.look.ensures.board ∙ c.self.invariant.0,
      subst (λ (es : List (Option Epoch)). AreSlots record { board = k; version = s.version; epochs = es }) (sym c.clear.ensures)
          (slots_freed s k c.args.slot k.knows.found c.self.invariant.1 c.look.ensures.looked
          (c.look.ensures.slots ∙ ap (λ b. if b then slice_set (slot_ids s.board.knows) c.args.slot None else slot_ids s.board.knows) yes)
          (sym c.look.ensures.unheld ∙ yes)),
    )

pub returns-clause-looked : goal.returns-clause-looked
returns-clause-looked g c =
    let s : Slotted = record { board = c.self.inside.publisher; version = arc_value c.self.inside.current; epochs = c.self.inside.epochs.items } in
    let k = c.look.new.self in
    let may : MayFree s c.args.slot = subst (λ (v : Slotted). MayFree v c.args.slot) (sym c.self.view_is) c.requires in
    subst (λ (v : Slotted). Looked v record { board = k; version = s.version; epochs = c.clear.new.epochs.items }) c.self.view_is
    (subst (λ (es : List (Option Epoch)). Looked s record { board = k; version = s.version; epochs = es }) (sym c.clear.ensures)
    (looked_freed s k c.args.slot k.knows.found may.1.0 c.look.ensures.board c.look.ensures.looked (sym c.look.ensures.unheld ∙ c.if-not-look.false) may.1.1 may.1.2))

pub returns-clause-others : goal.returns-clause-others
returns-clause-others g c i ne =
    ap (λ (es : List (Option Epoch)). slice_get es i) c.clear.ensures ∙ (set_else c.self.inside.epochs.items c.args.slot i None ne ∙ ap (λ (v : Slotted). slice_get v.epochs i) c.self.view_is)
