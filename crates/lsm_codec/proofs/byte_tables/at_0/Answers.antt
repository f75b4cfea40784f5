use Rattle.std.proofs.Common.{arith}
use Rattle.lsm_codec.proofs.TableFacts.{table_0}
use Rattle.lsm_codec.proofs.byte_tables.at_0.Goals as goal

pub returns : goal.returns
returns c = table_0 c.args.byte (omega arith)
