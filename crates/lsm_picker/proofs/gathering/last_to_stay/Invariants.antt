use Rattle.std.proofs.Common.{take}
use Rattle.lsm_picker.specs.Gathering.{IsLastToStay}
use Rattle.lsm_picker.proofs.gathering.last_to_stay.Given as goal

abbrev pub invariant-loop-table : goal.invariant-loop-table
invariant-loop-table g l = IsLastToStay l.target_size l.live l.tables (take l.table-index l.tables) l.last
