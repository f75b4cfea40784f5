use Rattle.lsm_cmd_write.proofs.WritingOutcomes.{is_refused}
use Rattle.lsm_cmd_write.proofs.ingesting.program.ingest.Goals as goal

pub returns-clause-refused : goal.returns-clause-refused
returns-clause-refused g c =
    is_refused c.bring_in-done.result.0 c.status_of.result _ _ g.S.Shelf.honest c.args.prepared.now.start c.args.prepared.now.logs.items c.args.batch.now _ _ _ _ c.status_of.ensures.ok
    c.status_of.ensures.err c.bring_in-done.ensures.fault c.bring_in-done.ensures.left
