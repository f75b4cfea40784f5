use Rattle.lsm_wal.proofs.EntryLaws.{last_from, answers_from}
use Rattle.lsm_wal.proofs.folding.last_writes.Goals as goal

pub returns-clause-last : goal.returns-clause-last
returns-clause-last c = last_from c.last_of_each.result c.in_ok-writes.writes.items _
    c.last_of_each.ensures.last c.in_ok-writes.ensures

pub returns-clause-answers : goal.returns-clause-answers
returns-clause-answers c = answers_from c.last_of_each.result c.in_ok-writes.writes.items _
    c.last_of_each.ensures.last c.in_ok-writes.ensures
