use Rattle.std.proofs.Common.{◌≡◌, take}
use Rattle.lsm_merge.proofs.copies.copy_ranges.Given as goal

abbrev pub invariant-loop-low : goal.invariant-loop-low
invariant-loop-low l = l.copies.items ≡ take l.low-index l.ranges
