use Rattle.std.proofs.Common.{◌≡◌, ◌*◌, ◌^◌, ◌≤◌, take}
use Rattle.std.specs.List.{filter}
use Rattle.lsm_version.specs.Overlap.{meets}
use Rattle.lsm_table.specs.Registry.{bytes_of}
use Rattle.lsm_picker.proofs.move_rule.bytes_over.Given as goal

abbrev pub invariant-loop-table : goal.invariant-loop-table
invariant-loop-table g l = record {
  bytes_is : l.bytes ≡ bytes_of (filter (meets l.from l.to) (take l.table-index l.tables));
  small : l.bytes ≤ l.table-index * 2 ^ 30;
}
