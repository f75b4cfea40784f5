use Rattle.lsm_opening.proofs.starting.start_named.Goals as goal

pub returns-in-Open-clause-started : goal.returns-in-Open-clause-started
returns-in-Open-clause-started g c = rw (c.in-Open.is, ← c.deref.ensures.value) c.open_beside.ensures.opened
