use Rattle.std.proofs.Common.{arith}
use Rattle.lsm_codec.proofs.SkipFacts.{skip_5}
use Rattle.lsm_codec.proofs.stride_tables.skip_5.Goals as goal

pub returns : goal.returns
returns c = skip_5 c.args.byte (omega arith)
