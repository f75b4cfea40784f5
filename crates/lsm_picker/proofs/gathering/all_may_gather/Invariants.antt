use Rattle.std.proofs.Common.{take}
use Rattle.lsm_picker.specs.Gathering.{AllMayGather}
use Rattle.lsm_picker.proofs.gathering.all_may_gather.Given as goal

abbrev pub invariant-loop-table : goal.invariant-loop-table
invariant-loop-table g l = AllMayGather l.target_size l.live (take l.table-index l.tables) l.number
