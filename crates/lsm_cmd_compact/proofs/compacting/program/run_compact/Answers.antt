use Rattle.lsm_cmd_compact.proofs.RunLaws.{done_by}
use Rattle.lsm_cmd_compact.proofs.compacting.program.run_compact.Goals as goal

pub returns-clause-done : goal.returns-clause-done
returns-clause-done g c = done_by c.compact_at-done.result c.status_of.result c.status_of.ensures.err c.compact_at-done.ensures.done
