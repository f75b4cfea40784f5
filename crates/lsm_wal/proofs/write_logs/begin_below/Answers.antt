use Rattle.lsm_wal.proofs.RowLaws.{raised, raised_none}
use Rattle.lsm_wal.proofs.write_logs.begin_below.Goals as goal

pub returns-in-Some-clause-no : goal.returns-in-Some-clause-no
returns-in-Some-clause-no c =
    λ test rs a. raised c.args.least rs c.args.batches.now c.in-Some.first.now
    c.in-Some.ensures.value test a

pub returns-in-None-clause-no : goal.returns-in-None-clause-no
returns-in-None-clause-no c = λ test rs a. raised_none c.args.least rs c.args.batches.now
    c.in-None.ensures.value a
