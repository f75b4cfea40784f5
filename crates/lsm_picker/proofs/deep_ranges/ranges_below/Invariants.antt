use Rattle.lsm_picker.proofs.Ranges.{AreRangesTo}
use Rattle.lsm_picker.proofs.deep_ranges.ranges_below.Given as goal

abbrev pub invariant-loop-below : goal.invariant-loop-below
invariant-loop-below g l = AreRangesTo l.version l.level l.below l.ranges.items
