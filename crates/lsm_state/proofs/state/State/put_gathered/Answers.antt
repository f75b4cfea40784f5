use Rattle.std.proofs.Common.{◌≡◌, ◌+◌, ◌≤◌, false, ◌∙◌, ap, arith}
use Rattle.lsm_state.specs.Held.{Held}
use Rattle.lsm_state.proofs.ChangeLaws.{lawful_spent}
use Rattle.lsm_state.proofs.state.State.put_gathered.Goals as goal

pub invariant_of-self : goal.invariant_of-self
invariant_of-self g c =
    let h : Held = record { options = c.self.inside.options; slots = c.self.inside.slots; snapshots = c.self.inside.snapshots; next = c.self.inside.next; next_ticket = c.self.inside.next_ticket; live = c.self.inside.live; journal = c.self.inside.journal; halted = c.self.inside.halted; pinners = c.self.inside.pinners.items; history = c.self.inside.keeper.entries } in
    let going : h.halted ≡ false = ap (λ (x : Held). x.halted) c.self.view_is ∙ c.requires.going in
    let more : h.next ≤ c.self.inside.next + 1 = omega arith in
    (lawful_spent g.S.Shelf.honest g.N.Boarded.board h (c.self.inside.next + 1) c.self.inside.halted c.self.invariant.0 going more, c.self.invariant.1)

pub invariant_of-self-2 : goal.invariant_of-self-2
invariant_of-self-2 g c =
    let h : Held = record { options = c.self.inside.options; slots = c.self.inside.slots; snapshots = c.self.inside.snapshots; next = c.self.inside.next; next_ticket = c.self.inside.next_ticket; live = c.self.inside.live; journal = c.self.inside.journal; halted = c.self.inside.halted; pinners = c.self.inside.pinners.items; history = c.self.inside.keeper.entries } in
    let going : h.halted ≡ false = ap (λ (x : Held). x.halted) c.self.view_is ∙ c.requires.going in
    let more : h.next ≤ c.self.inside.next + 1 = omega arith in
    (lawful_spent g.S.Shelf.honest g.N.Boarded.board h (c.self.inside.next + 1) c.self.inside.halted c.self.invariant.0 going more, c.self.invariant.1)
