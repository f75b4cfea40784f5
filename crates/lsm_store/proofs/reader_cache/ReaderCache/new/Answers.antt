use Rattle.std.proofs.Common.{◌∙◌}
use Rattle.std.specs.Arc.{arc_value}
use Rattle.lsm_store.proofs.PromiseLaws.{current_listed, known_answers}
use Rattle.lsm_store.proofs.reader_cache.ReaderCache.new.Goals as goal

pub invariant_of-result : goal.invariant_of-result
invariant_of-result g c = (
  λ y. known_answers c.args.state.now (arc_value c.in_ok-version.version) c.sequences_of-snapshots.result.numbers c.remember-memory.result (c.in_ok-version.ensures ∙ c.current-id.ensures.version) c.sequences_of-snapshots.ensures (search)
      (c.law.ensures.agrees y),
  current_listed c.args.state.now (arc_value c.in_ok-version.version) c.current-id.result.0 c.catalogue-catalogue.result c.current-id.ensures.id (c.in_ok-version.ensures ∙ c.current-id.ensures.version) c.catalogue-catalogue.ensures.current,
)
