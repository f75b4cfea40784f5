use Rattle.std.proofs.Common.{arith}
use Rattle.std.proofs.lemmas.List.{take_all}
use Rattle.lsm_codec.proofs.vectorwise.load.Goals as goal

pub returns : goal.returns
returns c = take_all 32 c.args.block.now (omega (arith, c.requires))
