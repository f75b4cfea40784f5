use Rattle.lsm_state.specs.Gathering.{HasNoneToGather}
use Rattle.lsm_theorems.proofs.CallSteps.{gather_so, ungathered_so, unspent_so}
use Rattle.lsm_theorems.proofs.calls.gatherings_are_calls.Goals as goal

pub returns-clause-ok : goal.returns-clause-ok
returns-clause-ok g c =
    gather_so g.S.Shelf.honest c.gather.result c.args.state.now c.gather.new.self c.args.shelf.now c.gather.new.shelf (HasNoneToGather c.args.state.now)
    c.gather.ensures.ok c.gather.ensures.event c.gather.ensures.history

pub returns-clause-none : goal.returns-clause-none
returns-clause-none g c = ungathered_so g.S.Shelf.honest c.gather.result c.args.state.now c.gather.new.self _ c.gather.ensures.none

pub returns-clause-err : goal.returns-clause-err
returns-clause-err g c = unspent_so g.S.Shelf.honest c.gather.result c.args.state.now c.gather.new.self c.gather.ensures.event_err c.gather.ensures.history
