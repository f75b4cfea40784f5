use Rattle.std.proofs.Common.{arith}
use Rattle.lsm_codec.proofs.SkipFacts.{skip_6}
use Rattle.lsm_codec.proofs.stride_tables.skip_6.Goals as goal

pub returns : goal.returns
returns c = skip_6 c.args.byte (omega arith)
