use Rattle.lsm_crash.proofs.Tables.{put_stands}
use Rattle.lsm_crash.proofs.laws.tables_stand_once_put.Goals as goal

pub returns : goal.returns
returns c = put_stands
