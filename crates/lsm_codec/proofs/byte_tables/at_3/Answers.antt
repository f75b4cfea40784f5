use Rattle.std.proofs.Common.{arith}
use Rattle.lsm_codec.proofs.TableFacts.{table_3}
use Rattle.lsm_codec.proofs.byte_tables.at_3.Goals as goal

pub returns : goal.returns
returns c = table_3 c.args.byte (omega arith)
