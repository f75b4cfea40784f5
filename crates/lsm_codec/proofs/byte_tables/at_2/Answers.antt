use Rattle.std.proofs.Common.{arith}
use Rattle.lsm_codec.proofs.TableFacts.{table_2}
use Rattle.lsm_codec.proofs.byte_tables.at_2.Goals as goal

pub returns : goal.returns
returns c = table_2 c.args.byte (omega arith)
