use Rattle.lsm_cmd_write.proofs.ingesting.bring_in_as.Goals as goal

pub returns-clause-fault : goal.returns-clause-fault
returns-clause-fault g c = rw (c.into_shelf.ensures.told, ← c.of-shelf.ensures) c.bring_in_named-done.ensures.fault
