use Rattle.lsm_journal.proofs.Recoveries.{named}
use Rattle.lsm_journal.proofs.laws.named_is_recorded.Goals as goal

pub returns : goal.returns
returns c = λ rest h shape v r of own. named rest h shape v r of own
