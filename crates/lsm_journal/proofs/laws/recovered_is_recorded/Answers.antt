use Rattle.lsm_journal.proofs.Recoveries.{recovered}
use Rattle.lsm_journal.proofs.laws.recovered_is_recorded.Goals as goal

pub returns : goal.returns
returns c = λ rest h shape v r of own. recovered c.shapes_in_order.ensures rest h shape v r of own
