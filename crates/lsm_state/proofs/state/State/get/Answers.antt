use Rattle.std.proofs.Common.{◌≡◌, ◌∙◌, ap, subst}
use Rattle.std.specs.Option.{option_map}
use Rattle.lsm_state.specs.Held.{Held, IsLawfulState}
use Rattle.lsm_state.proofs.StateLaws.{read_as}
use Rattle.lsm_state.proofs.state.State.get.Goals as goal

pub returns-clause-history : goal.returns-clause-history
returns-clause-history g c = (
  c.in_ok-seq.seq,
  c.in_ok-seq.ensures.ok,
  λ fair.
      let h : Held = c.args.self.now in
      let law = subst (λ (x : Held). IsLawfulState g.S.Shelf.honest g.N.Boarded.board x) c.self.view_is c.self.invariant.0 in
      let same : c.version.result.now ≡ h.slots.version = c.version.ensures.version ∙ ap (λ (x : Held). x.slots.version) c.self.view_is in
      read_as g.S.Shelf.honest g.N.Boarded.board h c.args.at c.in_ok-seq.seq c.args.user.now c.version.result.now (option_map (λ b. b.items) c.in_ok-value.value) law same c.in_ok-seq.ensures.ok fair
      (c.in_ok-value.ensures.answer fair),
)
