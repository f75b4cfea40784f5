use Rattle.lsm_journal.proofs.KeyLengths.{whole_keys}
use Rattle.lsm_journal.proofs.laws.whole_keys_fit.Goals as goal

pub returns : goal.returns
returns c = whole_keys
