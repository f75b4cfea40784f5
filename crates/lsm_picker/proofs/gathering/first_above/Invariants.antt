use Rattle.std.proofs.Common.{take}
use Rattle.lsm_picker.specs.Gathering.{IsFirstAbove}
use Rattle.lsm_picker.proofs.gathering.first_above.Given as goal

abbrev pub invariant-loop-table : goal.invariant-loop-table
invariant-loop-table g l = IsFirstAbove l.last l.tables (take l.table-index l.tables) l.least
