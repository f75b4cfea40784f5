use Rattle.lsm_cmd_write.proofs.WritingOutcomes.{done_by}
use Rattle.lsm_cmd_write.proofs.ingesting.program.ingest_from.Goals as goal

pub returns-clause-done : goal.returns-clause-done
returns-clause-done g c = λ zero. (
  c.in-Ok-read_batch.batch,
  c.in-Ok-read_batch.ensures.batch,
  done_by c.ingest_at-done.result c.status_of.result _ c.status_of.ensures.ok
      c.status_of.ensures.err c.ingest_at-done.ensures.done zero,
)
