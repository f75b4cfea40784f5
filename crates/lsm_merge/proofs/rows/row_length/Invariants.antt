use Rattle.std.proofs.Common.{◌-◌, ◌<◌, ◌≤◌, length}
use Rattle.lsm_merge.proofs.Rising.{RisesTo}
use Rattle.lsm_merge.proofs.rows.row_length.Given as goal

abbrev pub invariant-loop-end : goal.invariant-loop-end
invariant-loop-end l = record {
  inside : l.end ≤ length l.ranges;
  some : 0 < l.end;
  rising : RisesTo l.ranges l.end;
}

abbrev pub decreases-loop-end : goal.decreases-loop-end
decreases-loop-end l = length l.ranges - l.end
