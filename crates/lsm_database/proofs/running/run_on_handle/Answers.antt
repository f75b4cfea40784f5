use Rattle.std.proofs.Common.{rules}
use Rattle.lsm_database.proofs.running.run_on_handle.Goals as goal

pub run_served-requires-clause-write : goal.run_served-requires-clause-write
run_served-requires-clause-write g c = (search rules, search rules)

pub run_served-requires-clause-read : goal.run_served-requires-clause-read
run_served-requires-clause-read g c = (search rules, search rules)
