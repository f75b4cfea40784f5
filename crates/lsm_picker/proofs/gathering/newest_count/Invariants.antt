use Rattle.std.proofs.Common.{◌≡◌, ◌≤◌, length, take}
use Rattle.lsm_picker.specs.Gathering.{newest}
use Rattle.lsm_picker.proofs.gathering.newest_count.Given as goal

abbrev pub invariant-loop-table : goal.invariant-loop-table
invariant-loop-table g l = record {
  count_is : l.count ≡ length (newest l.number (take l.table-index l.tables));
  few : l.count ≤ l.table-index;
}
