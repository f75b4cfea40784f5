use Rattle.lsm_state.specs.Held.{Held}
use Rattle.lsm_state.specs.Ingesting.{entries_of}
use Rattle.lsm_theorems.proofs.CallLaws.{snapshots_so}
use Rattle.lsm_theorems.proofs.ingests.ingests_add_their_batch.Goals as goal

pub returns-clause-snapshots : goal.returns-clause-snapshots
returns-clause-snapshots g c =
    let was : Held = c.args.state.now in
    let is : Held = c.ingest-ingested.new.self in
    snapshots_so g.S.Shelf.honest c.ingest-ingested.result was is (entries_of was c.args.batch.now) c.ingest-ingested.ensures.event c.ingest-ingested.ensures.history c.law.ensures.law.law c.law.ensures.agrees c.law-2.ensures.agrees
