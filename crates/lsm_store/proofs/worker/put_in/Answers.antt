use Rattle.lsm_store.proofs.CompactingLaws.{step_installed, step_refused}
use Rattle.lsm_store.proofs.worker.put_in.Goals as goal

pub returns-in-Ok-clause-step : goal.returns-in-Ok-clause-step
returns-in-Ok-clause-step g c =
    step_installed g.S.Shelf.honest c.args.state.now c.install.new.self c.args.done _ _ c.in-Ok.ensures.installed c.in-Ok.ensures.answers c.in-Ok.ensures.event

pub returns-in-Err-clause-step : goal.returns-in-Err-clause-step
returns-in-Err-clause-step g c =
    step_refused g.S.Shelf.honest c.args.state.now c.install.new.self c.args.done _ _ _ c.in-Err.ensures.refused c.in-Err.ensures.event_err
