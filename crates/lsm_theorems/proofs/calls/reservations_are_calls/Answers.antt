use Rattle.lsm_theorems.proofs.CallSteps.{none_so, reserve_so, same_so}
use Rattle.lsm_theorems.proofs.calls.reservations_are_calls.Goals as goal

pub returns-clause-ok : goal.returns-clause-ok
returns-clause-ok g c = reserve_so g.S.Shelf.honest c.reserve.result c.args.state.now c.reserve.new.self c.reserve.ensures.ok c.reserve.ensures.event

pub returns-clause-none : goal.returns-clause-none
returns-clause-none g c = none_so g.S.Shelf.honest c.reserve.result c.args.state.now c.reserve.new.self c.reserve.ensures.none

pub returns-clause-err : goal.returns-clause-err
returns-clause-err g c = same_so g.S.Shelf.honest c.reserve.result c.args.state.now c.reserve.new.self c.reserve.ensures.err
