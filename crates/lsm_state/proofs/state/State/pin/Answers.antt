use Rattle.std.proofs.Common.{◌≡◌, ℕ, ◌↔◌, ap, sym, subst}
use Rattle.lsm_slots.specs.Slots.{Slotted}
use Rattle.lsm_state.specs.Collecting.{IsKeptNumber}
use Rattle.lsm_state.specs.Held.{Held, plain}
use Rattle.lsm_state.specs.Editions.{AreEditions}
use Rattle.lsm_state.proofs.EditionLaws.{pinned_editions}
use Rattle.lsm_state.proofs.Numbers.{pinned_kept, unpinned_kept}
use Rattle.lsm_state.proofs.StateLaws.{lawful_pinned, lawful_same, nothing}
use Rattle.lsm_state.proofs.state.State.pin.Goals as goal
use Rattle.lsm_state.proofs.state.State.pin.Goals.{in-Some, in-None}

pub invariant_of-self : goal.invariant_of-self
invariant_of-self g c =
    let h : Held = record { options = c.self.inside.options; slots = c.self.inside.slots; snapshots = c.self.inside.snapshots; next = c.self.inside.next; next_ticket = c.self.inside.next_ticket; live = c.self.inside.live; journal = c.self.inside.journal; halted = c.self.inside.halted; pinners = c.self.inside.pinners.items; history = c.self.inside.keeper.entries } in
    elim c.match-pin.branch [
      | in-Some w ↦ (let m = w.in-Some.ensures.some.1 in (lawful_pinned g.S.Shelf.honest g.N.Boarded.board h c.pin.new.self _ _ _ c.self.invariant.0 m.2, pinned_editions h.slots c.pin.new.self _ _ _ _ m.2 c.self.invariant.1))
      | in-None w ↦ (lawful_same g.S.Shelf.honest g.N.Boarded.board h c.pin.new.self c.self.invariant.0 w.in-None.ensures.none.1, subst (λ (x : Slotted). AreEditions x c.self.inside.keeper.editions) (sym w.in-None.ensures.none.1) c.self.invariant.1)
    ]

pub returns-clause-event : goal.returns-clause-event
returns-clause-event g c =
    let h : Held = record { options = c.self.inside.options; slots = c.self.inside.slots; snapshots = c.self.inside.snapshots; next = c.self.inside.next; next_ticket = c.self.inside.next_ticket; live = c.self.inside.live; journal = c.self.inside.journal; halted = c.self.inside.halted; pinners = c.self.inside.pinners.items; history = c.self.inside.keeper.entries } in
    subst (λ (x : Held). plain (record h { slots = c.pin.new.self }) ≡ plain x) c.self.view_is (nothing h c.pin.new.self (elim c.match-pin.branch [
      | in-Some w ↦ (let m = w.in-Some.ensures.some.1 in ap (λ (x : Slotted). x.version) m.2.is)
      | in-None w ↦ ap (λ (x : Slotted). x.version) w.in-None.ensures.none.1
    ]))

pub returns-clause-kept : goal.returns-clause-kept
returns-clause-kept g c =
    let h : Held = record { options = c.self.inside.options; slots = c.self.inside.slots; snapshots = c.self.inside.snapshots; next = c.self.inside.next; next_ticket = c.self.inside.next_ticket; live = c.self.inside.live; journal = c.self.inside.journal; halted = c.self.inside.halted; pinners = c.self.inside.pinners.items; history = c.self.inside.keeper.entries } in
    subst (λ (x : Held). (n : ℕ) → IsKeptNumber (record h { slots = c.pin.new.self }) n ↔ IsKeptNumber x n) c.self.view_is (elim c.match-pin.branch [
      | in-Some w ↦ (let m = w.in-Some.ensures.some.1 in pinned_kept h c.pin.new.self _ _ _ m.2)
      | in-None w ↦ unpinned_kept h c.pin.new.self w.in-None.ensures.none.1
    ])
