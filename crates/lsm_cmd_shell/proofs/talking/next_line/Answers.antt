use Rattle.lsm_cmd_shell.proofs.talking.next_line.Goals as goal

pub returns-in-Ok-TooLong-clause-some : goal.returns-in-Ok-TooLong-clause-some
returns-in-Ok-TooLong-clause-some g c =
    let next = rw (c.in-Ok-TooLong.is, c.in-Ok-TooLong.field-0-is) at c.next.ensures in
    record { line = next.0; held = tt; is = next.1; takes = next.2 }

pub returns-in-Ok-NoMemory-clause-some : goal.returns-in-Ok-NoMemory-clause-some
returns-in-Ok-NoMemory-clause-some g c =
    let next = rw (c.in-Ok-NoMemory.is, c.in-Ok-NoMemory.field-0-is) at c.next.ensures in
    record { line = next.0; held = tt; is = tt; takes = next.1 }
