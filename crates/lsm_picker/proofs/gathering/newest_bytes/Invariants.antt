use Rattle.std.proofs.Common.{◌≡◌, ◌*◌, ◌^◌, ◌≤◌, take}
use Rattle.lsm_table.specs.Registry.{bytes_of}
use Rattle.lsm_picker.specs.Gathering.{newest}
use Rattle.lsm_picker.proofs.gathering.newest_bytes.Given as goal

abbrev pub invariant-loop-table : goal.invariant-loop-table
invariant-loop-table g l = record {
  bytes_is : l.bytes ≡ bytes_of (newest l.number (take l.table-index l.tables));
  small : l.bytes ≤ l.table-index * 2 ^ 30;
}
