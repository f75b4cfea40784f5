use Rattle.lsm_model.proofs.Installs.{install_lawful}
use Rattle.lsm_model.proofs.laws.install_stays_lawful.Goals as goal

pub returns : goal.returns
returns c = λ v w outs job K. install_lawful v job K outs w
