use Rattle.std.proofs.Common.{codes}
use Rattle.lsm_cmd_shell.specs.Batching.{none_begun}
use Rattle.lsm_cmd_shell.specs.Said.{done}
use Rattle.lsm_cmd_shell.proofs.BatchLaws.{aborted, nothing_aborted}
use Rattle.lsm_cmd_shell.proofs.batching.abort.Goals as goal

pub returns-in-Some : goal.returns-in-Some
returns-in-Some g c = (done (codes "aborted\n"), aborted c.args.begun.now _ c.in-Some.is, c.say.ensures)

pub returns-in-None : goal.returns-in-None
returns-in-None g c = (none_begun, nothing_aborted c.args.begun.now c.in-None.is, c.say_failed.ensures)
