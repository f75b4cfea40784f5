use Rattle.lsm_repair.proofs.ReadLaws.{memory_alone, whole_from}
use Rattle.lsm_repair.proofs.reading.table_of.Goals as goal

pub returns-in-Ok-clause-whole : goal.returns-in-Ok-clause-whole
returns-in-Ok-clause-whole c =
    let found = rw c.in-Some.is at c.in_ok-plain.ensures.found in
    whole_from c.args.packed.now c.in-Some.plain.bytes.items c.in-Some.plain.smallest
    c.in-Some.plain.largest found.0 c.in-Ok.table found.1 found.2
    (λ fs k. c.in-Ok.ensures.only fs k)

pub returns-in-Some-clause-refused : goal.returns-in-Some-clause-refused
returns-in-Some-clause-refused c =
    let found = rw c.in-Some.is at c.in_ok-plain.ensures.found in
    memory_alone c.in-Err.fault found.0 _ (c.in-Err.ensures.only found.0 found.2.table)
