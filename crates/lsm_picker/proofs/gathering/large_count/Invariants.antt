use Rattle.std.proofs.Common.{◌≡◌, ◌≤◌, length, take}
use Rattle.std.specs.List.{filter}
use Rattle.lsm_picker.specs.Gathering.{is_large}
use Rattle.lsm_picker.proofs.gathering.large_count.Given as goal

abbrev pub invariant-loop-table : goal.invariant-loop-table
invariant-loop-table g l = record {
  count_is : l.count ≡ length (filter (is_large l.target_size l.live) (take l.table-index l.tables));
  few : l.count ≤ l.table-index;
}
