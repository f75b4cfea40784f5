use Rattle.std.proofs.Common.{arith}
use Rattle.lsm_codec.proofs.SkipFacts.{skip_7}
use Rattle.lsm_codec.proofs.stride_tables.skip_7.Goals as goal

pub returns : goal.returns
returns c = skip_7 c.args.byte (omega arith)
