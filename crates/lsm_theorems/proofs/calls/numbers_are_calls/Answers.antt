use Rattle.lsm_theorems.proofs.CallSteps.{draw_so, same_so}
use Rattle.lsm_theorems.proofs.calls.numbers_are_calls.Goals as goal

pub returns-clause-ok : goal.returns-clause-ok
returns-clause-ok g c = draw_so g.S.Shelf.honest c.new_number.result c.args.state.now c.new_number.new.self c.args.ticket _ _ c.new_number.ensures.ok c.new_number.ensures.event

pub returns-clause-err : goal.returns-clause-err
returns-clause-err g c = same_so g.S.Shelf.honest c.new_number.result c.args.state.now c.new_number.new.self c.new_number.ensures.err
