use Rattle.std.proofs.Common.{arith}
use Rattle.lsm_codec.proofs.TableFacts.{table_5}
use Rattle.lsm_codec.proofs.byte_tables.at_5.Goals as goal

pub returns : goal.returns
returns c = table_5 c.args.byte (omega arith)
