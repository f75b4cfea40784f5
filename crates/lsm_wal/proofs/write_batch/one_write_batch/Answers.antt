use Rattle.lsm_wal.proofs.BatchLaws.{one_batch}
use Rattle.lsm_wal.proofs.write_batch.one_write_batch.Goals as goal

pub returns : goal.returns
returns c = one_batch
