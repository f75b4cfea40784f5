use Rattle.std.proofs.Common.{arith}
use Rattle.lsm_codec.proofs.SkipFacts.{skip_4}
use Rattle.lsm_codec.proofs.stride_tables.skip_4.Goals as goal

pub returns : goal.returns
returns c = skip_4 c.args.byte (omega arith)
