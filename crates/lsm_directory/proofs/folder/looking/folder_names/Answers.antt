use Rattle.lsm_directory.proofs.LookLaws.{list_refused, looks_listed, memory_stopped, names_listed}
use Rattle.lsm_directory.proofs.folder.looking.folder_names.Goals as goal

pub returns-in-Ok-clause-listed : goal.returns-in-Ok-clause-listed
returns-in-Ok-clause-listed g c = names_listed c.in_order.result _ _ _ c.in-Ok.ensures.noted c.in_order.ensures.same

pub returns-in-Ok-clause-refused : goal.returns-in-Ok-clause-refused
returns-in-Ok-clause-refused g c = memory_stopped c.in_order.result _ _ c.in_order.ensures.memory

pub returns-in-Ok-clause-looked : goal.returns-in-Ok-clause-looked
returns-in-Ok-clause-looked g c = looks_listed _ _ _ c.in-Ok.ensures.noted

pub returns-in-Err-clause-refused : goal.returns-in-Err-clause-refused
returns-in-Err-clause-refused g c = list_refused c.device.result c.in-Err.fault _ _ c.in-Err.ensures.fault c.in-Err.ensures.noted c.device.ensures.device

pub returns-in-Err-clause-looked : goal.returns-in-Err-clause-looked
returns-in-Err-clause-looked g c = looks_listed _ _ _ c.in-Err.ensures.noted
