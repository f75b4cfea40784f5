use Rattle.lsm_crash.proofs.Held.{fresh_settled, fresh_vacant}
use Rattle.lsm_crash.proofs.laws.found_folders_are_settled.Goals as goal

pub returns-clause-settled : goal.returns-clause-settled
returns-clause-settled c = fresh_settled

pub returns-clause-vacant : goal.returns-clause-vacant
returns-clause-vacant c = fresh_vacant
