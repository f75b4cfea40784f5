use Rattle.lsm_model.proofs.Installs.{one_each}
use Rattle.lsm_model.proofs.laws.lawful_has_one_each.Goals as goal

pub returns : goal.returns
returns c = one_each
