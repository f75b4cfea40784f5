use Rattle.lsm_history.specs.History.{IsLater}
use Rattle.lsm_store.specs.declared.picks.Picks.TheVariants.{Choice}
use Rattle.lsm_channels.specs.Compacting.{Works}
use Rattle.lsm_channels.specs.Keeping.{IsKnown}
use Rattle.lsm_channels.proofs.compacting.compact.Given as goal

abbrev pub invariant-tries : goal.invariant-tries
invariant-tries g l = record {
  known : IsLater l.memory l.fn.memory;
  worked : Works g.S.Shelf.honest (g.S.Shelf.refuses g.N.Naming.place) g.K.Invariant.keeps Choice l.fn.shelf l.shelf;
  kept : IsKnown g.K.Invariant.keeps l.fn.memory → IsKnown g.K.Invariant.keeps l.memory;
}
