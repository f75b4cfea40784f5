use Rattle.std.proofs.Common.{arith}
use Rattle.lsm_codec.proofs.SkipFacts.{skip_3}
use Rattle.lsm_codec.proofs.stride_tables.skip_3.Goals as goal

pub returns : goal.returns
returns c = skip_3 c.args.byte (omega arith)
