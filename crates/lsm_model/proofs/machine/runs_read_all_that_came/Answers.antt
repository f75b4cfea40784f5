use Rattle.lsm_model.proofs.Runs.{run_reads}
use Rattle.lsm_model.proofs.machine.runs_read_all_that_came.Goals as goal

pub returns : goal.returns
returns g c = λ s t events h. run_reads g.P.Premise.holds h s events t
