use Rattle.lsm_cmd_levels.proofs.DueLaws.{no_start}
use Rattle.lsm_cmd_levels.proofs.due.due_next.Goals as goal

pub returns-in-None : goal.returns-in-None
returns-in-None c = absurd (no_start c.args.shape.now c.in_ok-level.field-0 c.in-Some.level c.files_at.result.now c.in_ok-level.ensures c.in-Some.is c.files_at.ensures c.in-None.ensures.none)
