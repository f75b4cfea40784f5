use Rattle.lsm_database.proofs.running.run_as.Goals as goal

pub returns-clause-refused : goal.returns-clause-refused
returns-clause-refused g c = rw (c.into_shelf.ensures.told, ← c.of-shelf.ensures) c.run_named-run.ensures.refused
