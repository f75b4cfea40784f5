use Rattle.std.proofs.Common.{◌≡◌, ℕ, ◌≤◌, false, sym, ◌∙◌, ap, subst}
use Rattle.lsm_state.specs.Held.{Held}
use Rattle.lsm_state.specs.Changing.{next_spent}
use Rattle.lsm_state.proofs.ChangeLaws.{lawful_spent, spent_rises}
use Rattle.lsm_state.proofs.state.State.spend.Goals as goal

pub invariant_of-self : goal.invariant_of-self
invariant_of-self g c =
    let h : Held = record { options = c.self.inside.options; slots = c.self.inside.slots; snapshots = c.self.inside.snapshots; next = c.self.inside.next; next_ticket = c.self.inside.next_ticket; live = c.self.inside.live; journal = c.self.inside.journal; halted = c.self.inside.halted; pinners = c.self.inside.pinners.items; history = c.self.inside.keeper.entries } in
    let going : h.halted ≡ false = subst (λ (x : Held). x.halted ≡ false) (sym c.self.view_is) c.requires.going in
    let is = c.next_spent-next.ensures ∙ ap (λ (x : Held). next_spent x) (sym c.self.view_is) in (
      lawful_spent g.S.Shelf.honest g.N.Boarded.board h c.next_spent-next.result c.halts-self-inside.result c.self.invariant.0 going
          (subst (λ (n : ℕ). h.next ≤ n) (sym is) (spent_rises h)),
      c.self.invariant.1,
    )
