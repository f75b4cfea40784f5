use Rattle.lsm_journal.proofs.Recording.{leads_fit}
use Rattle.lsm_journal.proofs.laws.differences_fit.Goals as goal

pub returns : goal.returns
returns c = λ h d w next fits l. leads_fit c.changed_tables.ensures h d w next fits l
