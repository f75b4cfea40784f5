use Rattle.std.proofs.Common.{arith}
use Rattle.lsm_codec.proofs.Blocks.{near_masks}
use Rattle.lsm_codec.proofs.wordwise.near.Goals as goal

pub returns : goal.returns
returns c = rw (c.at_3.ensures, c.at_2.ensures, c.at_1.ensures, c.at_0.ensures) (near_masks c.args.word (omega arith))
