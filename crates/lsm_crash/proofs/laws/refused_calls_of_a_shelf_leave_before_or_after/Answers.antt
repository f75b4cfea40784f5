use Rattle.lsm_crash.proofs.Shelves.{append_stopped, append_unasked, plan_cut, put_stopped, read_leaves, remove_stopped, start_stopped, start_unasked}
use Rattle.lsm_crash.proofs.laws.refused_calls_of_a_shelf_leave_before_or_after.Goals as goal

pub returns-clause-put : goal.returns-clause-put
returns-clause-put c = λ d old new w number image fault was ok h. put_stopped d old w was number image fault new ok h

pub returns-clause-removed : goal.returns-clause-removed
returns-clause-removed c = λ d old new w number fault was ok h. remove_stopped d old w was number fault new ok h

pub returns-clause-appended : goal.returns-clause-appended
returns-clause-appended c = λ d old new w text v fault was ok h. append_stopped d old w was text v fault new ok h

pub returns-clause-append_memory : goal.returns-clause-append_memory
returns-clause-append_memory c = λ d old new w text v was ok h. append_unasked d old w was text v new ok h

pub returns-clause-started : goal.returns-clause-started
returns-clause-started c = λ d old new w number bytes v fault was ok h. start_stopped d old w was number bytes v ok fault new h

pub returns-clause-start_memory : goal.returns-clause-start_memory
returns-clause-start_memory c = λ d old new w number bytes v was ok h. start_unasked d old w was number bytes v ok new h

pub returns-clause-cut : goal.returns-clause-cut
returns-clause-cut c = λ d old new w o fault was ok r. plan_cut d old w was o fault new ok r

pub returns-clause-read : goal.returns-clause-read
returns-clause-read c = λ d old w name answer was. read_leaves d old w was name answer
