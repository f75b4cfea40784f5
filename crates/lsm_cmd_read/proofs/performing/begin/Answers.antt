use Rattle.lsm_cmd_read.proofs.ReadingOutcomes.{is_refused}
use Rattle.lsm_cmd_read.proofs.performing.begin.Goals as goal

pub returns-in-Ok-clause-refused : goal.returns-in-Ok-clause-refused
returns-in-Ok-clause-refused g c = is_refused c.perform_as.result.0 _ _ _ g.S.Shelf.honest _ _
    c.perform_as.ensures.fault c.perform_as.ensures.left
