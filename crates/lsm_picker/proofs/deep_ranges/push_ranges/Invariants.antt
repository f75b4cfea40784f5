use Rattle.std.proofs.Common.{◌≡◌, ◌++◌, take}
use Rattle.lsm_picker.specs.RangesBelow.{ranges_of}
use Rattle.lsm_picker.proofs.deep_ranges.push_ranges.Given as goal

abbrev pub invariant-loop-table : goal.invariant-loop-table
invariant-loop-table g l = l.ranges.items ≡ l.initial.ranges.items ++ ranges_of (take l.table-index l.tables)
