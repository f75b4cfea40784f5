use Rattle.std.proofs.Common.{arith}
use Rattle.lsm_codec.proofs.WordLaws.{word_is}
use Rattle.lsm_codec.proofs.stridewise.word.Goals as goal

pub returns : goal.returns
returns c register = rw c.from_le_bytes.ensures (word_is c.args.bytes.now register c.requires (λ i. omega (arith, c.type_inv.bytes i)))
