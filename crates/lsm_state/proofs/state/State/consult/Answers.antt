use Rattle.std.proofs.Common.{◌≡◌, ℕ, List, subst}
use Rattle.lsm_history.specs.History.{Chronicle, Edition, IsLater}
use Rattle.lsm_slots.specs.Slots.{Epoch, HasEpoch}
use Rattle.lsm_version.specs.Versions.{numbers_in}
use Rattle.lsm_state.specs.Held.{Held}
use Rattle.lsm_state.proofs.EditionLaws.{listed_before}
use Rattle.lsm_state.proofs.state.State.consult.Goals as goal

pub returns-clause-one : goal.returns-clause-one
returns-clause-one g c x h =
    let later : IsLater c.self.inside.keeper.editions c.args.catalogue.now = subst (λ (es : List Edition). IsLater c.self.inside.keeper.editions es) c.replace-old.ensures.value
    (subst (λ (k : Chronicle). IsLater k.editions c.replace-old.result) c.catalogue-now.ensures.same c.consult.ensures.later) in
    subst (λ (z : Held). (slot : ℕ) (e : Epoch) → HasEpoch z.slots slot e → e.id ≡ x.id → numbers_in e.version ≡ x.tables) c.self.view_is
    (listed_before c.self.inside.slots c.self.inside.keeper.editions c.args.catalogue.now c.self.invariant.1 later x h)
