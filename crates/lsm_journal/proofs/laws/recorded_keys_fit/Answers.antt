use Rattle.lsm_journal.proofs.Recording.{recorded_fit}
use Rattle.lsm_journal.proofs.laws.recorded_keys_fit.Goals as goal

pub returns : goal.returns
returns c = recorded_fit
