use Rattle.std.proofs.Common.{take}
use Rattle.lsm_verify.specs.LevelLayouts.{AreRangesOf}
use Rattle.lsm_admission.proofs.layouts.level_layout.Given as goal

abbrev pub invariant-loop-table : goal.invariant-loop-table
invariant-loop-table g l = AreRangesOf (take l.table-index l.level) l.ranges.items
