use Rattle.lsm_cmd_bench.proofs.PairLaws.{runs_on}
use Rattle.lsm_cmd_bench.proofs.bench.+measure_all.Goals as goal

pub returns-in_ok-after-in-len1-up : goal.returns-in_ok-after-in-len1-up
returns-in_ok-after-in-len1-up g t c =
    runs_on c.measure_all.result c.args.options.now.num c.args.options.now.value_size c.args.benchmarks.now _ c.args.mark c.in_ok-after-in-len1-up.after c.in-len1-up.len_at_least
    c.in_ok-after-in-len1-up.ensures c.measure_all.ensures
