use Rattle.lsm_wal.proofs.LogLaws.{one_write_log}
use Rattle.lsm_wal.proofs.write_log.one_write_log.Goals as goal

pub returns : goal.returns
returns c = one_write_log c.one_log.ensures
