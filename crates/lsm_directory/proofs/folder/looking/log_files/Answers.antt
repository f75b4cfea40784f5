use Rattle.lsm_directory.proofs.LookLaws.{looks_then, stopped_later}
use Rattle.lsm_directory.proofs.folder.looking.log_files.Goals as goal

pub returns-clause-refused : goal.returns-clause-refused
returns-clause-refused g c = stopped_later c.logs_among.result _ _ _ c.in_ok-names.ensures.looked c.logs_among.ensures.refused

pub returns-clause-looked : goal.returns-clause-looked
returns-clause-looked g c = looks_then _ _ _ c.in_ok-names.ensures.looked c.logs_among.ensures.looked
