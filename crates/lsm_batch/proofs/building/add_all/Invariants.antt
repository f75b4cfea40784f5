use Rattle.std.proofs.Common.{◌≡◌, ◌+◌, ◌++◌, drop}
use Rattle.lsm_batch.specs.Batches.{entries_from}
use Rattle.lsm_batch.proofs.building.add_all.Given as goal

abbrev pub invariant-loop-i : goal.invariant-loop-i
invariant-loop-i l = record {
  options : l.table.options ≡ l.fn.table.options;
  entries : l.table.entries ++ entries_from (l.first + l.i) (drop l.i l.writes) ≡ l.fn.table.entries ++ entries_from l.first l.writes;
}
