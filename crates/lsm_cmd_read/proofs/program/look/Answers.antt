use Rattle.lsm_cmd_read.proofs.LookedLaws.{done_on}
use Rattle.lsm_directory.proofs.CallerLemmas.{stopped_by}
use Rattle.lsm_cmd_read.proofs.program.look.Goals as goal

pub returns-clause-done : goal.returns-clause-done
returns-clause-done g c = done_on g.S.Shelf.honest c.begin-done.result.0 c.status_of.result _ _ _ _
    _ _ _ c.status_of.ensures.err c.begin-done.ensures.done c.status_of.ensures.quiet

pub returns-clause-refused : goal.returns-clause-refused
returns-clause-refused g c = stopped_by c.begin-done.result.0 c.status_of.result _
    c.status_of.ensures.ok c.status_of.ensures.err c.begin-done.ensures.refused
