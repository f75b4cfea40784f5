use Rattle.lsm_theorems.proofs.CallSteps.{ingest_so, spent_so}
use Rattle.lsm_theorems.proofs.calls.ingests_are_calls.Goals as goal

pub returns-clause-ok : goal.returns-clause-ok
returns-clause-ok g c =
    ingest_so g.S.Shelf.honest c.ingest.result c.args.state.now c.ingest.new.self c.args.batch.now c.args.shelf.now c.ingest.new.shelf c.ingest.ensures.ok c.ingest.ensures.event c.ingest.ensures.history

pub returns-clause-err : goal.returns-clause-err
returns-clause-err g c = spent_so g.S.Shelf.honest c.ingest.result c.args.state.now c.ingest.new.self c.ingest.ensures.event_err c.ingest.ensures.history_err
