use Rattle.lsm_state.specs.Held.{Held}
use Rattle.lsm_state.proofs.EditionLaws.{looked_editions}
use Rattle.lsm_state.proofs.StateLaws.{lawful_looked}
use Rattle.lsm_state.proofs.state.State.find_slot.Goals as goal

pub invariant_of-self : goal.invariant_of-self
invariant_of-self g c =
    let h : Held = record { options = c.self.inside.options; slots = c.self.inside.slots; snapshots = c.self.inside.snapshots; next = c.self.inside.next; next_ticket = c.self.inside.next_ticket; live = c.self.inside.live; journal = c.self.inside.journal; halted = c.self.inside.halted; pinners = c.self.inside.pinners.items; history = c.self.inside.keeper.entries } in
    (lawful_looked g.S.Shelf.honest g.N.Boarded.board h c.find_free.new.self c.self.invariant.0 c.find_free.ensures.looked, looked_editions h.slots c.find_free.new.self _ c.find_free.ensures.looked c.self.invariant.1)

pub invariant_of-self-then-id-ge-LAST_VERSION : goal.invariant_of-self-then-id-ge-LAST_VERSION
invariant_of-self-then-id-ge-LAST_VERSION g c =
    let h : Held = record { options = c.self.inside.options; slots = c.self.inside.slots; snapshots = c.self.inside.snapshots; next = c.self.inside.next; next_ticket = c.self.inside.next_ticket; live = c.self.inside.live; journal = c.self.inside.journal; halted = c.self.inside.halted; pinners = c.self.inside.pinners.items; history = c.self.inside.keeper.entries } in
    (lawful_looked g.S.Shelf.honest g.N.Boarded.board h c.find_free.new.self c.self.invariant.0 c.find_free.ensures.looked, looked_editions h.slots c.find_free.new.self _ c.find_free.ensures.looked c.self.invariant.1)

pub invariant_of-self-2 : goal.invariant_of-self-2
invariant_of-self-2 g c =
    let h : Held = record { options = c.self.inside.options; slots = c.self.inside.slots; snapshots = c.self.inside.snapshots; next = c.self.inside.next; next_ticket = c.self.inside.next_ticket; live = c.self.inside.live; journal = c.self.inside.journal; halted = c.self.inside.halted; pinners = c.self.inside.pinners.items; history = c.self.inside.keeper.entries } in
    (lawful_looked g.S.Shelf.honest g.N.Boarded.board h c.find_free.new.self c.self.invariant.0 c.find_free.ensures.looked, looked_editions h.slots c.find_free.new.self _ c.find_free.ensures.looked c.self.invariant.1)
