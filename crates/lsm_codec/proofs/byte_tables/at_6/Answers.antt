use Rattle.std.proofs.Common.{arith}
use Rattle.lsm_codec.proofs.TableFacts.{table_6}
use Rattle.lsm_codec.proofs.byte_tables.at_6.Goals as goal

pub returns : goal.returns
returns c = table_6 c.args.byte (omega arith)
