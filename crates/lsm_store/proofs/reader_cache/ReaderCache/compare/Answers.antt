use Rattle.std.proofs.Common.{List, sym, subst}
use Rattle.std.specs.Arc.{arc_value}
use Rattle.lsm_codec.specs.Lists.{Has}
use Rattle.lsm_codec.proofs.CallerLemmas.{has_right}
use Rattle.lsm_history.specs.History.{Edition}
use Rattle.lsm_state.specs.Editions.{edition}
use Rattle.lsm_store.proofs.reader_cache.ReaderCache.compare.Goals as goal

pub invariant_of-self : goal.invariant_of-self
invariant_of-self g c =
    let x : Edition = edition c.self.inside.id (arc_value c.self.inside.version) in
    let l = c.consult.ensures.later in (
      c.self.invariant.0,
      subst (λ (es : List Edition). Has es x) (sym l.1) (has_right l.0 c.self.inside.catalogue x c.self.invariant.1),
    )
