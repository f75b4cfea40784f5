use Rattle.lsm_model.proofs.Installs.{install_answers}
use Rattle.lsm_model.proofs.laws.install_changes_no_answer.Goals as goal

pub returns : goal.returns
returns c = λ v w outs job. install_answers v job outs w
