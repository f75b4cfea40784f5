use Rattle.std.proofs.Common.{take}
use Rattle.lsm_picker.specs.TableRanges.{IsLowest}
use Rattle.lsm_picker.proofs.table_range.lowest.Given as goal

abbrev pub invariant-loop-table : goal.invariant-loop-table
invariant-loop-table g l = IsLowest (take l.table-index l.tables) l.from l.low
