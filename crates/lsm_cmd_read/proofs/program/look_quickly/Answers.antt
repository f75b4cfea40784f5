use Rattle.lsm_cmd_read.proofs.QuickLaws.{quickly_on}
use Rattle.lsm_directory.proofs.CallerLemmas.{stopped_by}
use Rattle.lsm_cmd_read.proofs.program.look_quickly.Goals as goal

pub returns-clause-done : goal.returns-clause-done
returns-clause-done g c = quickly_on _ _ g.S.Shelf.honest c.begin_quickly-done.result.0
    c.status_of.result _ _ _ _ _ _ c.status_of.ensures.err c.begin_quickly-done.ensures.done
    c.status_of.ensures.quiet

pub returns-clause-refused : goal.returns-clause-refused
returns-clause-refused g c = stopped_by c.begin_quickly-done.result.0 c.status_of.result _
    c.status_of.ensures.ok c.status_of.ensures.err c.begin_quickly-done.ensures.refused
