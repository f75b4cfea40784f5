use Rattle.lsm_cmd_convert.proofs.converting.write_answer.Goals as goal

pub returns-in-Dump-clause-explained : goal.returns-in-Dump-clause-explained
returns-in-Dump-clause-explained g c = rw c.in-Dump.is c.print_table.ensures.explained

pub returns-in-Dump-clause-begun : goal.returns-in-Dump-clause-begun
returns-in-Dump-clause-begun g c = rw c.in-Dump.is c.print_table.ensures.begun
