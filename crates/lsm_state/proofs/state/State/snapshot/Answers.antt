use Rattle.std.proofs.Common.{◌∙◌, ap, subst}
use Rattle.lsm_version.specs.Versions.{Levels}
use Rattle.lsm_model.specs.Plain.{TakesSnapshot}
use Rattle.lsm_state.specs.Held.{Held, plain}
use Rattle.lsm_state.proofs.StateLaws.{lawful_taken, taken_at, takes}
use Rattle.lsm_state.proofs.state.State.snapshot.Goals as goal

pub invariant_of-self-2 : goal.invariant_of-self-2
invariant_of-self-2 g c =
    let h : Held = record { options = c.self.inside.options; slots = c.self.inside.slots; snapshots = c.self.inside.snapshots; next = c.self.inside.next; next_ticket = c.self.inside.next_ticket; live = c.self.inside.live; journal = c.self.inside.journal; halted = c.self.inside.halted; pinners = c.self.inside.pinners.items; history = c.self.inside.keeper.entries } in
    let last = c.last-last.ensures.last ∙ ap (λ (v : Levels). v.last) c.version.ensures.version in
    let r = c.in_ok-id.ensures.ok in
    (lawful_taken g.S.Shelf.honest g.N.Boarded.board h c.take.new.self c.self.invariant.0 (taken_at h c.take.new.self c.in_ok-id.id c.last-last.result r.0 last r.1), c.self.invariant.1)

pub returns-clause-event : goal.returns-clause-event
returns-clause-event g c =
    let h : Held = record { options = c.self.inside.options; slots = c.self.inside.slots; snapshots = c.self.inside.snapshots; next = c.self.inside.next; next_ticket = c.self.inside.next_ticket; live = c.self.inside.live; journal = c.self.inside.journal; halted = c.self.inside.halted; pinners = c.self.inside.pinners.items; history = c.self.inside.keeper.entries } in
    let last = c.last-last.ensures.last ∙ ap (λ (v : Levels). v.last) c.version.ensures.version in
    let r = c.in_ok-id.ensures.ok in
    subst (λ (x : Held). TakesSnapshot (plain x) (plain (record h { snapshots = c.take.new.self }))) c.self.view_is
    (takes h c.take.new.self (taken_at h c.take.new.self c.in_ok-id.id c.last-last.result r.0 last r.1))
