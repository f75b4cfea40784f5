use Rattle.std.proofs.Common.{◌≡◌, length}
use Rattle.std.specs.Prelude.{◌↔◌}
use Rattle.lsm_merge.proofs.sameness.same_ranges.Given as goal

abbrev pub invariant-loop-one : goal.invariant-loop-one
invariant-loop-one l = (l.one ≡ l.other) ↔ (l.first ≡ l.second)

abbrev pub decreases-loop-one : goal.decreases-loop-one
decreases-loop-one l = length l.one
