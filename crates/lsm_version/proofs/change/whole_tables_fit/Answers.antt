use Rattle.lsm_version.proofs.LevelFiles.{table_fits}
use Rattle.lsm_version.proofs.change.whole_tables_fit.Goals as goal

pub returns : goal.returns
returns c n t w = table_fits n t w
