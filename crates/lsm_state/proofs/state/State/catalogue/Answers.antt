use Rattle.std.proofs.Common.{List, sym, subst}
use Rattle.lsm_codec.specs.Lists.{Has}
use Rattle.lsm_history.specs.History.{Edition}
use Rattle.lsm_slots.specs.Slots.{current_id}
use Rattle.lsm_state.specs.Editions.{edition}
use Rattle.lsm_state.specs.Held.{Held}
use Rattle.lsm_state.proofs.EditionLaws.{current_listed}
use Rattle.lsm_state.proofs.state.State.catalogue.Goals as goal

pub returns-clause-current : goal.returns-clause-current
returns-clause-current g c =
    let there = current_listed c.self.inside.slots c.self.inside.keeper.editions c.version-version.ensures.law c.self.invariant.1 in
    subst (λ (h : Held). Has c.catalogue.result (edition (current_id h.slots) h.slots.version)) c.self.view_is
    (subst (λ (es : List Edition). Has es (edition (current_id c.self.inside.slots) c.self.inside.slots.version)) (sym c.catalogue.ensures.seen) there)
