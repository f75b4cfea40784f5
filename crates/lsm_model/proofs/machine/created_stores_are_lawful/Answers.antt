use Rattle.lsm_model.proofs.Created.{created_law}
use Rattle.lsm_model.proofs.machine.created_stores_are_lawful.Goals as goal

pub returns : goal.returns
returns g c = created_law g.P.Premise.holds
