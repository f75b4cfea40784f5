use Rattle.lsm_theorems.proofs.SmallRun.{small_run}
use Rattle.lsm_theorems.proofs.runs.runs_can_be_made.Goals as goal

pub returns : goal.returns
returns g c = small_run g.P.Premise.holds
