use Rattle.lsm_model.proofs.Checked.{judged_lawful}
use Rattle.lsm_model.proofs.laws.judged_versions_are_lawful.Goals as goal

pub returns : goal.returns
returns c = judged_lawful
