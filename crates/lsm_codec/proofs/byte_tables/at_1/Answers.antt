use Rattle.std.proofs.Common.{arith}
use Rattle.lsm_codec.proofs.TableFacts.{table_1}
use Rattle.lsm_codec.proofs.byte_tables.at_1.Goals as goal

pub returns : goal.returns
returns c = table_1 c.args.byte (omega arith)
