use Rattle.std.proofs.Common.{subst}
use Rattle.lsm_model.specs.Plain.{Cancels}
use Rattle.lsm_state.specs.Held.{Held, plain}
use Rattle.lsm_state.proofs.StateLaws.{cancels, lawful_cancelled}
use Rattle.lsm_state.proofs.state.State.cancel.Goals as goal

pub invariant_of-self : goal.invariant_of-self
invariant_of-self g c =
    let h : Held = record { options = c.self.inside.options; slots = c.self.inside.slots; snapshots = c.self.inside.snapshots; next = c.self.inside.next; next_ticket = c.self.inside.next_ticket; live = c.self.inside.live; journal = c.self.inside.journal; halted = c.self.inside.halted; pinners = c.self.inside.pinners.items; history = c.self.inside.keeper.entries } in
    (lawful_cancelled g.S.Shelf.honest g.N.Boarded.board h c.remove.new.self c.args.ticket c.self.invariant.0 c.remove.ensures.rest, c.self.invariant.1)

pub returns-clause-event : goal.returns-clause-event
returns-clause-event g c =
    let h : Held = record { options = c.self.inside.options; slots = c.self.inside.slots; snapshots = c.self.inside.snapshots; next = c.self.inside.next; next_ticket = c.self.inside.next_ticket; live = c.self.inside.live; journal = c.self.inside.journal; halted = c.self.inside.halted; pinners = c.self.inside.pinners.items; history = c.self.inside.keeper.entries } in
    subst (λ (x : Held). Cancels (plain x) c.args.ticket (plain (record h { live = c.remove.new.self }))) c.self.view_is (cancels h c.remove.new.self c.args.ticket c.remove.ensures.rest)
