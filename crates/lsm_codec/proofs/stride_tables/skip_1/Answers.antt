use Rattle.std.proofs.Common.{arith}
use Rattle.lsm_codec.proofs.SkipFacts.{skip_1}
use Rattle.lsm_codec.proofs.stride_tables.skip_1.Goals as goal

pub returns : goal.returns
returns c = skip_1 c.args.byte (omega arith)
