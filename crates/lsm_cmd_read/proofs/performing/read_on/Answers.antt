use Rattle.lsm_cmd_read.proofs.performing.read_on.Goals as goal

pub returns-in-Scan-clause-left : goal.returns-in-Scan-clause-left
returns-in-Scan-clause-left g c = rw c.in-Scan.is c.print_scan.ensures.left
