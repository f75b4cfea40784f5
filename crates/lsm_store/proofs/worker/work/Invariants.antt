use Rattle.std.proofs.Common.{◌≡◌, ◌-◌, ◌^◌, List}
use Rattle.std.specs.Prelude.{min}
use Rattle.lsm_store.specs.Working.{Turns, compactions}
use Rattle.lsm_store.specs.declared.turn.Turn.{Turn}
use Rattle.lsm_store.proofs.worker.work.Given as goal

abbrev pub invariant-loop : goal.invariant-loop
invariant-loop g l =
    (goal.iterator-loop g).can_next l.iterator' × (goal.iterator-loop g).is_finite l.iterator'
    × ((turns : List Turn) × (l.installed ≡ min (compactions turns) (2 ^ 64 - 1)) × Turns g.S.Shelf.honest g.K.Invariant.keeps l.picks turns l.fn.shelf l.shelf)
