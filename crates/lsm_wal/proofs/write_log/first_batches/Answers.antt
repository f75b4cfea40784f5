use Rattle.lsm_wal.proofs.LogLaws.{first_batches}
use Rattle.lsm_wal.proofs.write_log.first_batches.Goals as goal

pub returns : goal.returns
returns c = first_batches c.prefixes.ensures
