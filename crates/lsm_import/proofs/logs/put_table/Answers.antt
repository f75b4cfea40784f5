use Rattle.lsm_import.proofs.logs.put_table.Goals as goal

pub returns-in-Err-clause-refused : goal.returns-in-Err-clause-refused
returns-in-Err-clause-refused g c =
    (c.in-Some.table, (cc), rw c.deref.ensures.value at c.in-Err.ensures.refused)
