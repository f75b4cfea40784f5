use Rattle.lsm_directory.proofs.CallerLemmas.{stopped_by}
use Rattle.lsm_cmd_levels.proofs.ShowLaws.{laid_on}
use Rattle.lsm_cmd_levels.proofs.program.run_levels.Goals as goal

pub returns-clause-done : goal.returns-clause-done
returns-clause-done g c =
    laid_on g.C.FolderCalls c.levels_at-done.result c.status_of.result c.args.line.now _ _ _ _ _ c.status_of.ensures.err c.levels_at-done.ensures.done
    c.status_of.ensures.quiet

pub returns-clause-refused : goal.returns-clause-refused
returns-clause-refused g c = stopped_by c.levels_at-done.result c.status_of.result _ c.status_of.ensures.ok c.status_of.ensures.err c.levels_at-done.ensures.refused
