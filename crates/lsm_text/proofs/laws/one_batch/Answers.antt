use Rattle.lsm_text.proofs.OneBatch.{one_batch as one_batch_lem}
use Rattle.lsm_text.proofs.laws.one_batch.Goals as goal

pub returns : goal.returns
returns c = one_batch_lem
