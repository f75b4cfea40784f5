use Rattle.std.proofs.Common.{arith}
use Rattle.lsm_codec.proofs.Blocks.{eight}
use Rattle.lsm_codec.proofs.wordwise.block_step.Goals as goal

pub returns : goal.returns
returns c = rw (c.far.ensures, c.near.ensures, c.from_le_bytes-first.ensures, c.from_le_bytes-second.ensures) (eight c.args.register c.args.block.now c.requires (λ i. omega (arith, c.type_inv.block i)))
