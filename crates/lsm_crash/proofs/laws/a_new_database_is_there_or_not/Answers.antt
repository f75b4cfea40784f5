use Rattle.lsm_crash.proofs.Held.{vacant_held}
use Rattle.lsm_crash.proofs.Runs.{begin_cut}
use Rattle.lsm_crash.proofs.Starting.{start_done}
use Rattle.lsm_crash.specs.Known.{nothing}
use Rattle.lsm_crash.proofs.laws.a_new_database_is_there_or_not.Goals as goal

pub returns-clause-cut : goal.returns-clause-cut
returns-clause-cut c = begin_cut

pub returns-clause-done : goal.returns-clause-done
returns-clause-done c = λ number bytes v d e vacant ok h. start_done nothing number bytes v ok d e (vacant_held d vacant) h

pub returns-clause-vacant : goal.returns-clause-vacant
returns-clause-vacant c = vacant_held
