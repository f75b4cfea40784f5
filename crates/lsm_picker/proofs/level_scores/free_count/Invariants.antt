use Rattle.std.proofs.Common.{◌≡◌, ◌≤◌, length, take}
use Rattle.lsm_picker.specs.Scores.{free_tables}
use Rattle.lsm_picker.proofs.level_scores.free_count.Given as goal

abbrev pub invariant-loop-table : goal.invariant-loop-table
invariant-loop-table g l = record {
  count_is : l.count ≡ length (free_tables l.reservations (take l.table-index l.tables));
  small : l.count ≤ l.table-index;
}
