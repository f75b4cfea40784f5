use Rattle.std.proofs.Common.{ℕ, subst}
use Rattle.lsm_state.specs.Collecting.{IsKeptNumber}
use Rattle.lsm_state.specs.Held.{Held}
use Rattle.lsm_state.proofs.EditionLaws.{looked_editions}
use Rattle.lsm_state.proofs.Numbers.{looked_kept}
use Rattle.lsm_state.proofs.StateLaws.{lawful_looked}
use Rattle.lsm_state.proofs.state.State.leave_unkept.Goals as goal

pub invariant_of-self : goal.invariant_of-self
invariant_of-self g c =
    let h : Held = record { options = c.self.inside.options; slots = c.self.inside.slots; snapshots = c.self.inside.snapshots; next = c.self.inside.next; next_ticket = c.self.inside.next_ticket; live = c.self.inside.live; journal = c.self.inside.journal; halted = c.self.inside.halted; pinners = c.self.inside.pinners.items; history = c.self.inside.keeper.entries } in
    (lawful_looked g.S.Shelf.honest g.N.Boarded.board h c.look_around.new.self c.self.invariant.0 c.look_around.ensures.looked, looked_editions h.slots c.look_around.new.self _ c.look_around.ensures.looked c.self.invariant.1)

pub returns-clause-kept : goal.returns-clause-kept
returns-clause-kept g c =
    let h : Held = record { options = c.self.inside.options; slots = c.self.inside.slots; snapshots = c.self.inside.snapshots; next = c.self.inside.next; next_ticket = c.self.inside.next_ticket; live = c.self.inside.live; journal = c.self.inside.journal; halted = c.self.inside.halted; pinners = c.self.inside.pinners.items; history = c.self.inside.keeper.entries } in
    subst (λ (x : Held). (n : ℕ) → IsKeptNumber (record h { slots = c.look_around.new.self }) n → IsKeptNumber x n) c.self.view_is (looked_kept h c.look_around.new.self c.look_around.ensures.looked)

pub returns-in_err-kept-clause-kept : goal.returns-in_err-kept-clause-kept
returns-in_err-kept-clause-kept g c =
    let h : Held = record { options = c.self.inside.options; slots = c.self.inside.slots; snapshots = c.self.inside.snapshots; next = c.self.inside.next; next_ticket = c.self.inside.next_ticket; live = c.self.inside.live; journal = c.self.inside.journal; halted = c.self.inside.halted; pinners = c.self.inside.pinners.items; history = c.self.inside.keeper.entries } in
    subst (λ (x : Held). (n : ℕ) → IsKeptNumber (record h { slots = c.look_around.new.self }) n → IsKeptNumber x n) c.self.view_is (looked_kept h c.look_around.new.self c.look_around.ensures.looked)
