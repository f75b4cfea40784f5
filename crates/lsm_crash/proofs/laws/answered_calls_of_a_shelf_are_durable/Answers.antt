use Rattle.lsm_crash.proofs.Shelves.{append_answered, plan_done, start_answered}
use Rattle.lsm_crash.specs.Operations.{Put, Remove}
use Rattle.lsm_crash.proofs.laws.answered_calls_of_a_shelf_are_durable.Goals as goal

pub returns-clause-put : goal.returns-clause-put
returns-clause-put c = λ d old w number image was ok. plan_done d old w was (Put number image) ok

pub returns-clause-removed : goal.returns-clause-removed
returns-clause-removed c = λ d old w number was ok. plan_done d old w was (Remove number) ok

pub returns-clause-appended : goal.returns-clause-appended
returns-clause-appended c = λ d old w n len text v was ok. append_answered d old w was n len text v ok

pub returns-clause-started : goal.returns-clause-started
returns-clause-started c = λ d old new w number bytes v was ok from. start_answered d old w was number bytes v ok new from
