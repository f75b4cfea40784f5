use Rattle.std.proofs.Common.{◌≡◌, ℕ, ◌+◌, ◌↔◌, ap, subst}
use Rattle.lsm_slots.specs.Slots.{PinsMove, Slotted}
use Rattle.lsm_state.specs.Collecting.{IsKeptNumber}
use Rattle.lsm_state.specs.Held.{Held, plain}
use Rattle.lsm_state.proofs.EditionLaws.{pinned_editions}
use Rattle.lsm_state.proofs.Numbers.{pinned_kept, unpinned_kept}
use Rattle.lsm_state.proofs.StateLaws.{lawful_pinned, nothing}
use Rattle.lsm_state.proofs.state.State.unpin.Goals as goal

pub invariant_of-self-2 : goal.invariant_of-self-2
invariant_of-self-2 g c =
    let h : Held = record { options = c.self.inside.options; slots = c.self.inside.slots; snapshots = c.self.inside.snapshots; next = c.self.inside.next; next_ticket = c.self.inside.next_ticket; live = c.self.inside.live; journal = c.self.inside.journal; halted = c.self.inside.halted; pinners = c.self.inside.pinners.items; history = c.self.inside.keeper.entries } in
    let m = c.unpin.ensures.unpinned c.if-not-unpin.false in
    (lawful_pinned g.S.Shelf.honest g.N.Boarded.board h c.unpin.new.self c.args.id (m.0 + 1) m.0 c.self.invariant.0 m.1, pinned_editions h.slots c.unpin.new.self _ c.args.id (m.0 + 1) m.0 m.1 c.self.invariant.1)

pub returns-clause-ok : goal.returns-clause-ok
returns-clause-ok g c = subst (λ (h : Held). (x : ℕ) × PinsMove h.slots c.unpin.new.self c.args.id (x + 1) x) c.self.view_is (c.unpin.ensures.unpinned c.if-not-unpin.false)

pub returns-clause-event : goal.returns-clause-event
returns-clause-event g c =
    let h : Held = record { options = c.self.inside.options; slots = c.self.inside.slots; snapshots = c.self.inside.snapshots; next = c.self.inside.next; next_ticket = c.self.inside.next_ticket; live = c.self.inside.live; journal = c.self.inside.journal; halted = c.self.inside.halted; pinners = c.self.inside.pinners.items; history = c.self.inside.keeper.entries } in
    let m = c.unpin.ensures.unpinned c.if-not-unpin.false in
    subst (λ (x : Held). plain (record h { slots = c.unpin.new.self }) ≡ plain x) c.self.view_is (nothing h c.unpin.new.self (ap (λ (x : Slotted). x.version) (m.1).is))

pub returns-clause-kept : goal.returns-clause-kept
returns-clause-kept g c =
    let h : Held = record { options = c.self.inside.options; slots = c.self.inside.slots; snapshots = c.self.inside.snapshots; next = c.self.inside.next; next_ticket = c.self.inside.next_ticket; live = c.self.inside.live; journal = c.self.inside.journal; halted = c.self.inside.halted; pinners = c.self.inside.pinners.items; history = c.self.inside.keeper.entries } in
    let m = c.unpin.ensures.unpinned c.if-not-unpin.false in
    subst (λ (x : Held). (n : ℕ) → IsKeptNumber (record h { slots = c.unpin.new.self }) n ↔ IsKeptNumber x n) c.self.view_is (pinned_kept h c.unpin.new.self c.args.id (m.0 + 1) m.0 m.1)

pub returns-then-not-unpin-clause-kept : goal.returns-then-not-unpin-clause-kept
returns-then-not-unpin-clause-kept g c =
    let h : Held = record { options = c.self.inside.options; slots = c.self.inside.slots; snapshots = c.self.inside.snapshots; next = c.self.inside.next; next_ticket = c.self.inside.next_ticket; live = c.self.inside.live; journal = c.self.inside.journal; halted = c.self.inside.halted; pinners = c.self.inside.pinners.items; history = c.self.inside.keeper.entries } in
    let same : c.unpin.new.self ≡ h.slots = c.unpin.ensures.unknown (λ t. (let no = c.if-not-unpin.true in cc)) in
    subst (λ (x : Held). (n : ℕ) → IsKeptNumber (record h { slots = c.unpin.new.self }) n ↔ IsKeptNumber x n) c.self.view_is (unpinned_kept h c.unpin.new.self same)
