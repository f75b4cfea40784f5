use Rattle.std.proofs.Common.{◌≡◌, ◌<◌, ℕ, true, take, get_or}
use Rattle.lsm_table.specs.Registry.{Table}
use Rattle.lsm_version.specs.Reads.{begins_by}
use Rattle.lsm_version.proofs.overlap.run_over.Given as goal

abbrev pub invariant-loop-table : goal.invariant-loop-table
invariant-loop-table g l = record {
  so_far : l.over.items ≡ take l.table-index l.rest;
  begin : (k : ℕ) (d : Table) → k < l.table-index → begins_by (get_or l.rest k d) l.to ≡ true;
}
