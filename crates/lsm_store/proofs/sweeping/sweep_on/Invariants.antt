use Rattle.lsm_store.specs.Sweeping.{HasSwept}
use Rattle.lsm_store.proofs.sweeping.sweep_on.Given as goal

abbrev pub invariant-loop : goal.invariant-loop
invariant-loop g l =
    (goal.iterator-loop g).can_next l.iterator' × (goal.iterator-loop g).is_finite l.iterator'
    × HasSwept (g.S.Shelf.refuses g.N.Naming.place) g.K.Invariant.keeps l.fn.shelf l.shelf
