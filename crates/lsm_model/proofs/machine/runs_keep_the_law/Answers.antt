use Rattle.lsm_model.proofs.Runs.{run_law}
use Rattle.lsm_model.proofs.machine.runs_keep_the_law.Goals as goal

pub returns : goal.returns
returns g c = λ s t events. run_law g.P.Premise.holds s events t
