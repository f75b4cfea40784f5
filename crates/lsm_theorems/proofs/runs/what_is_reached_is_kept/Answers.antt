use Rattle.lsm_theorems.proofs.ChainLaws.{reached_call, reached_found, reached_worked}
use Rattle.lsm_theorems.proofs.runs.what_is_reached_is_kept.Goals as goal

pub returns-clause-found : goal.returns-clause-found
returns-clause-found g c = reached_found g.P.Premise.holds

pub returns-clause-called : goal.returns-clause-called
returns-clause-called g c = reached_call g.P.Premise.holds

pub returns-clause-worked : goal.returns-clause-worked
returns-clause-worked g c = reached_worked g.P.Premise.holds
