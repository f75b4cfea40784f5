use Rattle.lsm_script.proofs.OneScript.{script_one}
use Rattle.lsm_script.proofs.laws.one_script.Goals as goal

pub returns : goal.returns
returns c = script_one
