use Rattle.std.proofs.Common.{length}
use Rattle.lsm_cmd_bench.proofs.bench.+measure_all.Given as goal

abbrev pub decreases-measure_all : goal.decreases-measure_all
decreases-measure_all g l = length l.benchmarks.now
