use Rattle.std.proofs.Common.{◌≡◌, length}
use Rattle.std.specs.Prelude.{◌↔◌}
use Rattle.lsm_merge.proofs.sameness.same_tables.Given as goal

abbrev pub invariant-loop-one : goal.invariant-loop-one
invariant-loop-one g l = (l.one ≡ l.other) ↔ (l.first ≡ l.second)

abbrev pub decreases-loop-one : goal.decreases-loop-one
decreases-loop-one g l = length l.one
