use Rattle.lsm_wal.proofs.FrontLaws.{kept, one_front}
use Rattle.lsm_wal.proofs.log_front.log_fronts.Goals as goal

pub returns-clause-one : goal.returns-clause-one
returns-clause-one c = one_front

pub returns-clause-kept : goal.returns-clause-kept
returns-clause-kept c = kept c.first_batches.ensures
