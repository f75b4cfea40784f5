use Rattle.lsm_commands.proofs.StatusLaws.{left_by}
use Rattle.lsm_commands.proofs.running.show_help.Goals as goal

pub returns-clause-refused : goal.returns-clause-refused
returns-clause-refused g c = left_by c.write_output-done.result c.status_of.result _ c.status_of.ensures.ok c.status_of.ensures.err c.write_output-done.ensures.begun
