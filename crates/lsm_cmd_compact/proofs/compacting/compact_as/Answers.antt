use Rattle.lsm_cmd_compact.proofs.compacting.compact_as.Goals as goal

pub returns-clause-done : goal.returns-clause-done
returns-clause-done g c = rw (c.into_shelf.ensures.told, ← c.of-shelf.ensures) c.compact_accepted-done.ensures.done

pub returns-clause-fault : goal.returns-clause-fault
returns-clause-fault g c = rw (c.into_shelf.ensures.told, ← c.of-shelf.ensures) c.compact_accepted-done.ensures.fault
