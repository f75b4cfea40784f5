use Rattle.std.proofs.Common.{◌≡◌, ◌+◌, List, [], ◌∷◌, ◌++◌, length, ap, sym, subst, length-append, arith}
use Rattle.lsm_batch.specs.declared.write.Write.{Write}
use Rattle.lsm_cmd_bench.specs.Pairs.{ArePairs}
use Rattle.lsm_cmd_bench.proofs.PairLaws.{pairs_more}
use Rattle.lsm_cmd_bench.proofs.filling.gather.Goals as goal

pub pairs-preserved : goal.pairs-preserved
pairs-preserved c =
    let f = c.args.filling in
    let w = c.in_ok-write.write in
    let next : c.args.first + c.pairs.place ≡ c.args.first + length c.pairs.buffer = omega (arith, c.pairs.invariant.count) in
    let more = pairs_more f.keys f.size f.ascends c.args.first (c.args.first + c.pairs.place) c.pairs.buffer w c.pairs.invariant.are next c.in_ok-write.ensures in
    let long = length-append c.pairs.buffer (w ∷ []) in
    let put = ap (λ (ws : List Write). length ws) c.in_ok-put.ensures in record {
      are = subst (λ (ws : List Write). ArePairs f.keys f.size f.ascends c.args.first ws) (sym c.in_ok-put.ensures) more;
      count = omega (arith, put, long, c.pairs.invariant.count);
    }
