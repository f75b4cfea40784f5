use Rattle.lsm_cmd_shell.proofs.UnwrittenLaws.{batch_refused}
use Rattle.lsm_cmd_shell.proofs.laws.halted_states_refuse_batches.Goals as goal

pub returns : goal.returns
returns g c = batch_refused g.S.Shelf.honest
