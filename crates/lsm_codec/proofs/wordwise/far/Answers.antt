use Rattle.std.proofs.Common.{arith}
use Rattle.lsm_codec.proofs.Blocks.{far_masks}
use Rattle.lsm_codec.proofs.wordwise.far.Goals as goal

pub returns : goal.returns
returns c = rw (c.at_7.ensures, c.at_6.ensures, c.at_5.ensures, c.at_4.ensures) (far_masks c.args.word (omega arith))
