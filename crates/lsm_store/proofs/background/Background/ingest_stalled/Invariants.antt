use Rattle.std.proofs.Common.{◌≡◌}
use Rattle.lsm_store.proofs.background.Background.ingest_stalled.Given as goal

abbrev pub invariant-loop : goal.invariant-loop
invariant-loop g l =
    (goal.iterator-loop g).can_next l.iterator' × (goal.iterator-loop g).is_finite l.iterator'
    × (l.shelf ≡ l.fn.shelf)
