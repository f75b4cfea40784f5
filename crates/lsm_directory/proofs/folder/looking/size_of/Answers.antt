use Rattle.lsm_directory.proofs.LookLaws.{looks_measured, size_refused}
use Rattle.lsm_directory.proofs.folder.looking.size_of.Goals as goal

pub returns-in-Ok-clause-looked : goal.returns-in-Ok-clause-looked
returns-in-Ok-clause-looked g c = looks_measured _ _ _ _ c.in-Ok.ensures.noted

pub returns-in-Missing-clause-looked : goal.returns-in-Missing-clause-looked
returns-in-Missing-clause-looked g c = looks_measured _ _ _ _ c.in-Err.ensures.noted

pub returns-in_default-clause-looked : goal.returns-in_default-clause-looked
returns-in_default-clause-looked g c = looks_measured _ _ _ _ c.in-Err.ensures.noted

pub returns-in_default-clause-refused : goal.returns-in_default-clause-refused
returns-in_default-clause-refused g c = size_refused c.device.result c.in-Err.fault _ _ _ c.in_default.not-Missing c.in-Err.ensures.noted c.device.ensures.device
