use Rattle.std.proofs.Common.{subst}
use Rattle.lsm_model.specs.Plain.{Releases}
use Rattle.lsm_state.specs.Held.{Held, plain}
use Rattle.lsm_state.proofs.StateLaws.{lawful_released, releases}
use Rattle.lsm_state.proofs.state.State.release.Goals as goal

pub invariant_of-self-2 : goal.invariant_of-self-2
invariant_of-self-2 g c =
    let h : Held = record { options = c.self.inside.options; slots = c.self.inside.slots; snapshots = c.self.inside.snapshots; next = c.self.inside.next; next_ticket = c.self.inside.next_ticket; live = c.self.inside.live; journal = c.self.inside.journal; halted = c.self.inside.halted; pinners = c.self.inside.pinners.items; history = c.self.inside.keeper.entries } in
    (lawful_released g.S.Shelf.honest g.N.Boarded.board h c.release.new.self c.args.id c.self.invariant.0 (c.release.ensures.released c.if-not-release.false), c.self.invariant.1)

pub returns-clause-event : goal.returns-clause-event
returns-clause-event g c =
    let h : Held = record { options = c.self.inside.options; slots = c.self.inside.slots; snapshots = c.self.inside.snapshots; next = c.self.inside.next; next_ticket = c.self.inside.next_ticket; live = c.self.inside.live; journal = c.self.inside.journal; halted = c.self.inside.halted; pinners = c.self.inside.pinners.items; history = c.self.inside.keeper.entries } in
    subst (λ (x : Held). Releases (plain x) c.args.id (plain (record h { snapshots = c.release.new.self }))) c.self.view_is
    (releases h c.release.new.self c.args.id (c.release.ensures.released c.if-not-release.false))
