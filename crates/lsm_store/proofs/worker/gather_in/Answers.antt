use Rattle.lsm_store.proofs.CompactingLaws.{step_gathered, step_none, step_ungathered}
use Rattle.lsm_store.proofs.worker.gather_in.Goals as goal

pub returns-in-Ok-Some-clause-step : goal.returns-in-Ok-Some-clause-step
returns-in-Ok-Some-clause-step g c =
    let ok = rw c.in-Ok-Some.field-0-is at c.in-Ok-Some.ensures.ok in
    let event = rw c.in-Ok-Some.field-0-is at c.in-Ok-Some.ensures.event in
    let answers = rw c.in-Ok-Some.field-0-is at c.in-Ok-Some.ensures.answers in
    step_gathered g.S.Shelf.honest c.args.state.now c.gather.new.self _ _ _ ok answers event

pub returns-in-Ok-None-clause-step : goal.returns-in-Ok-None-clause-step
returns-in-Ok-None-clause-step g c =
    let none = rw c.in-Ok-None.field-0-is at c.in-Ok-None.ensures.none in
    step_none g.S.Shelf.honest c.args.state.now c.gather.new.self none.0

pub returns-in-Err-clause-step : goal.returns-in-Err-clause-step
returns-in-Err-clause-step g c =
    step_ungathered g.S.Shelf.honest c.args.state.now c.gather.new.self _ _ _ c.in-Err.ensures.refused c.in-Err.ensures.event_err
