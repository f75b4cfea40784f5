use Rattle.std.proofs.Common.{arith}
use Rattle.lsm_cmd_bench.proofs.PairLaws.{fills_more, fills_none}
use Rattle.lsm_cmd_bench.proofs.filling.fill.Goals as goal

pub batches-init : goal.batches-init
batches-init g c = record {
  filled = fills_none c.args.filling.keys c.args.filling.size c.args.filling.ascends c.args.mark;
  within = omega arith;
}

pub batches-preserved : goal.batches-preserved
batches-preserved g c =
    let f = c.args.filling in
    let came = c.in_ok-mark.ensures in record {
      filled = fills_more f.keys f.size f.ascends c.batches.taken c.next_count-count.result c.args.mark c.batches.mark c.in_ok-mark.mark came.0 came.3 c.batches.invariant.filled
          came.1 came.2 came.4 came.5;
      within = omega arith;
    }
