use Rattle.std.proofs.Common.{arith}
use Rattle.lsm_codec.proofs.TableFacts.{table_7}
use Rattle.lsm_codec.proofs.byte_tables.at_7.Goals as goal

pub returns : goal.returns
returns c = table_7 c.args.byte (omega arith)
