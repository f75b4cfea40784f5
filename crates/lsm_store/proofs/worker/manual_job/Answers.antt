use Rattle.lsm_store.proofs.CompactingLaws.{step_reserved}
use Rattle.lsm_store.proofs.worker.manual_job.Goals as goal

pub returns-in-Ok-Some-clause-step : goal.returns-in-Ok-Some-clause-step
returns-in-Ok-Some-clause-step g c =
    let ok = rw c.in-Ok-Some.field-0-is at c.in-Ok-Some.ensures.booked in
    let event = rw c.in-Ok-Some.field-0-is at c.in-Ok-Some.ensures.event in
    step_reserved g.S.Shelf.honest c.args.state.now c.reserve.new.state c.in-Ok-Some.job _ _ ok event
