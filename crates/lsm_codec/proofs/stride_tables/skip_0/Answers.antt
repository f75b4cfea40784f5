use Rattle.std.proofs.Common.{arith}
use Rattle.lsm_codec.proofs.SkipFacts.{skip_0}
use Rattle.lsm_codec.proofs.stride_tables.skip_0.Goals as goal

pub returns : goal.returns
returns c = skip_0 c.args.byte (omega arith)
