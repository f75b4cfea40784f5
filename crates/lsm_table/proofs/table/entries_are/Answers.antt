use Rattle.lsm_table.proofs.HeldTableLaws.{table_held, table_itself}
use Rattle.lsm_table.proofs.table.entries_are.Goals as goal

pub returns-clause-same : goal.returns-clause-same
returns-clause-same c bytes es t = table_held bytes es t

pub returns-clause-table : goal.returns-clause-table
returns-clause-table c bytes es t = table_itself bytes es t
