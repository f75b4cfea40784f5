use Rattle.lsm_crash.proofs.Calls.{done_after, refused_after}
use Rattle.lsm_crash.proofs.laws.calls_of_plans.Goals as goal

pub returns-clause-done : goal.returns-clause-done
returns-clause-done c = done_after

pub returns-clause-refused : goal.returns-clause-refused
returns-clause-refused c = refused_after
