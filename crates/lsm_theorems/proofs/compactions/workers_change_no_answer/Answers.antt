use Rattle.lsm_theorems.proofs.CallLaws.{left_so}
use Rattle.lsm_theorems.proofs.compactions.workers_change_no_answer.Goals as goal

pub let_work-requires-clause-kept : goal.let_work-requires-clause-kept
let_work-requires-clause-kept g c κs within = c.what_was_found_is_kept.ensures.seated c.args.state

pub let_work-requires-clause-steps : goal.let_work-requires-clause-steps
let_work-requires-clause-steps g c κs within = c.what_was_found_is_kept.ensures.kept c.args.state

pub returns : goal.returns
returns g c = left_so g.S.Shelf.honest c.args.state c.let_work.result c.what_was_found_is_kept.ensures.out c.let_work.ensures
