use Rattle.std.proofs.Common.{arith}
use Rattle.lsm_codec.proofs.TableFacts.{table_4}
use Rattle.lsm_codec.proofs.byte_tables.at_4.Goals as goal

pub returns : goal.returns
returns c = table_4 c.args.byte (omega arith)
