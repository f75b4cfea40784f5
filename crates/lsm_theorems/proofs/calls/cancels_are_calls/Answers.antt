use Rattle.lsm_theorems.proofs.CallSteps.{cancel_so, same_so}
use Rattle.lsm_theorems.proofs.calls.cancels_are_calls.Goals as goal

pub returns-clause-ok : goal.returns-clause-ok
returns-clause-ok g c = cancel_so g.S.Shelf.honest c.cancel.result c.args.state.now c.cancel.new.self c.args.ticket c.cancel.ensures.ok c.cancel.ensures.event

pub returns-clause-err : goal.returns-clause-err
returns-clause-err g c = same_so g.S.Shelf.honest c.cancel.result c.args.state.now c.cancel.new.self c.cancel.ensures.err
