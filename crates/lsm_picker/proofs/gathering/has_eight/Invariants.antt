use Rattle.std.proofs.Common.{take}
use Rattle.lsm_picker.proofs.GatheringLaws.{NoEight}
use Rattle.lsm_picker.proofs.gathering.has_eight.Given as goal

abbrev pub invariant-loop-table : goal.invariant-loop-table
invariant-loop-table g l = NoEight l.target_size l.live l.tables (take l.table-index l.tables)
