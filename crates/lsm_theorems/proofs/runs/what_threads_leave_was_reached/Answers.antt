use Rattle.lsm_theorems.proofs.runs.what_threads_leave_was_reached.Goals as goal

pub let_call-requires-clause-found : goal.let_call-requires-clause-found
let_call-requires-clause-found g c κs within = c.what_is_reached_is_kept.ensures.found c.args.state

pub let_call-requires-clause-called : goal.let_call-requires-clause-called
let_call-requires-clause-called g c κs within = c.what_is_reached_is_kept.ensures.called c.args.state

pub let_call-requires-clause-worked : goal.let_call-requires-clause-worked
let_call-requires-clause-worked g c κs within = c.what_is_reached_is_kept.ensures.worked c.args.state
