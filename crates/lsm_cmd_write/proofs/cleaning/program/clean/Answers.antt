use Rattle.lsm_directory.proofs.CallerLemmas.{stopped_by}
use Rattle.lsm_cmd_write.proofs.cleaning.program.clean.Goals as goal

pub returns-clause-refused : goal.returns-clause-refused
returns-clause-refused g c =
    stopped_by c.clean_folder-done.result c.status_of.result _ c.status_of.ensures.ok c.status_of.ensures.err c.clean_folder-done.ensures.refused
