use Rattle.std.proofs.Common.{take}
use Rattle.lsm_picker.specs.TableRanges.{IsHighest}
use Rattle.lsm_picker.proofs.table_range.highest.Given as goal

abbrev pub invariant-loop-table : goal.invariant-loop-table
invariant-loop-table g l = IsHighest (take l.table-index l.tables) l.to l.high
