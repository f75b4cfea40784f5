use Rattle.std.proofs.Common.{◌≡◌, suc, ◌+◌, subst, arith}
use Rattle.lsm_model.specs.Plain.{Draws}
use Rattle.lsm_state.specs.Held.{Held, plain}
use Rattle.lsm_state.proofs.StateLaws.{draws, lawful_drawn}
use Rattle.lsm_state.proofs.state.State.new_number.Goals as goal

pub invariant_of-self-2 : goal.invariant_of-self-2
invariant_of-self-2 g c =
    let h : Held = record { options = c.self.inside.options; slots = c.self.inside.slots; snapshots = c.self.inside.snapshots; next = c.self.inside.next; next_ticket = c.self.inside.next_ticket; live = c.self.inside.live; journal = c.self.inside.journal; halted = c.self.inside.halted; pinners = c.self.inside.pinners.items; history = c.self.inside.keeper.entries } in
    let more : c.self.inside.next + 1 ≡ suc h.next = omega arith in
    (lawful_drawn g.S.Shelf.honest g.N.Boarded.board h c.draw.new.self c.args.ticket (c.self.inside.next + 1) c.self.invariant.0 c.in_ok-draw.ensures.ok more, c.self.invariant.1)

pub returns-clause-event : goal.returns-clause-event
returns-clause-event g c =
    let h : Held = record { options = c.self.inside.options; slots = c.self.inside.slots; snapshots = c.self.inside.snapshots; next = c.self.inside.next; next_ticket = c.self.inside.next_ticket; live = c.self.inside.live; journal = c.self.inside.journal; halted = c.self.inside.halted; pinners = c.self.inside.pinners.items; history = c.self.inside.keeper.entries } in
    let more : c.self.inside.next + 1 ≡ suc h.next = omega arith in
    subst (λ (x : Held). Draws (plain x) c.args.ticket (plain (record h { live = c.draw.new.self; next = c.self.inside.next + 1 }))) c.self.view_is
    (draws h c.draw.new.self c.args.ticket (c.self.inside.next + 1) c.in_ok-draw.ensures.ok more)
