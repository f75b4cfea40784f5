use Rattle.std.proofs.Common.{◌-◌, ◌≤◌}
use Rattle.lsm_cmd_bench.specs.Filled.{Fills}
use Rattle.lsm_cmd_bench.proofs.filling.fill.Given as goal

abbrev pub invariant-batches : goal.invariant-batches
invariant-batches g l = record {
  filled : Fills l.fn.filling.keys l.fn.filling.size l.fn.filling.ascends l.taken l.fn.mark l.mark;
  within : l.taken ≤ l.fn.filling.pairs;
}

abbrev pub decreases-batches : goal.decreases-batches
decreases-batches g l = l.fn.filling.pairs - l.taken
