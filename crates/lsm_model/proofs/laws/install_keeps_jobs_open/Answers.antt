use Rattle.lsm_model.proofs.Installs.{install_keeps_open}
use Rattle.lsm_model.proofs.laws.install_keeps_jobs_open.Goals as goal

pub returns : goal.returns
returns c = λ v w outs job other K. install_keeps_open v job other K outs w
