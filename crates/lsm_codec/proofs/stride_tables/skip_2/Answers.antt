use Rattle.std.proofs.Common.{arith}
use Rattle.lsm_codec.proofs.SkipFacts.{skip_2}
use Rattle.lsm_codec.proofs.stride_tables.skip_2.Goals as goal

pub returns : goal.returns
returns c = skip_2 c.args.byte (omega arith)
