use Rattle.lsm_crash.proofs.Dropping.{drop_can}
use Rattle.lsm_crash.proofs.Instances.{append_can, crash_can, empty_vacant, put_can, remove_can, some_settled, start_can}
use Rattle.lsm_crash.proofs.laws.premises_are_met.Goals as goal

pub returns-clause-vacant : goal.returns-clause-vacant
returns-clause-vacant c = empty_vacant

pub returns-clause-start : goal.returns-clause-start
returns-clause-start c = start_can

pub returns-clause-follow : goal.returns-clause-follow
returns-clause-follow c = drop_can

pub returns-clause-put : goal.returns-clause-put
returns-clause-put c = put_can

pub returns-clause-append : goal.returns-clause-append
returns-clause-append c = append_can

pub returns-clause-remove : goal.returns-clause-remove
returns-clause-remove c = remove_can

pub returns-clause-settled : goal.returns-clause-settled
returns-clause-settled c = some_settled

pub returns-clause-crash : goal.returns-clause-crash
returns-clause-crash c = crash_can
