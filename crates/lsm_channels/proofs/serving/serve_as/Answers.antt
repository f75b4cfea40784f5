use Rattle.lsm_channels.proofs.serving.serve_as.Goals as goal

pub returns-clause-served : goal.returns-clause-served
returns-clause-served g c = rw (c.into_shelf.ensures.told, ← c.of-shelf.ensures) c.serve_named-done.ensures.served

pub returns-clause-refused : goal.returns-clause-refused
returns-clause-refused g c = rw (c.into_shelf.ensures.told, ← c.of-shelf.ensures) c.serve_named-done.ensures.refused
