use Rattle.std.proofs.Common.{◌-◌, ◌≡◌, ◌≤◌, length, drop, Some, None}
use Rattle.lsm_iterators.specs.Runs.{once}
use Rattle.lsm_iterators.proofs.row.same_front.Given as goal

abbrev pub invariant-loop-count : goal.invariant-loop-count
invariant-loop-count g l = record {
  some : 1 ≤ l.count;
  inside : l.count ≤ length l.tables;
  rest : once (Some l.number) (drop l.count l.tables) ≡ drop 1 (once None l.tables);
}

abbrev pub decreases-loop-count : goal.decreases-loop-count
decreases-loop-count g l = length l.tables - l.count
