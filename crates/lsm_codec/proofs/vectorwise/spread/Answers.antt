use Rattle.std.proofs.Common.{◌/◌, ◌%◌, get_or, bit_xor}
use Rattle.std.proofs.lemmas.Simd.{zip2_of_maps}
use Rattle.lsm_codec.proofs.vectorwise.spread.Goals as goal

pub returns : goal.returns
returns c =
    zip2_of_maps bit_xor (λ x. get_or c.args.low.now (x % 16) 0)
    (λ x. get_or c.args.high.now (x / 16) 0) c.args.bytes c.at_low.ensures c.at_high.ensures
