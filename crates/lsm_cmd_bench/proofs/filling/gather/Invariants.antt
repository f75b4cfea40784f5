use Rattle.std.proofs.Common.{◌≡◌, length}
use Rattle.lsm_cmd_bench.specs.Pairs.{ArePairs}
use Rattle.lsm_cmd_bench.proofs.filling.gather.Given as goal

abbrev pub invariant-pairs : goal.invariant-pairs
invariant-pairs l = record {
  are : ArePairs l.fn.filling.keys l.fn.filling.size l.fn.filling.ascends l.fn.first l.buffer;
  count : length l.buffer ≡ l.place;
}
