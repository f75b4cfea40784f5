use Rattle.std.proofs.Common.{codes}
use Rattle.lsm_cmd_shell.specs.Batching.{begun_twice}
use Rattle.lsm_cmd_shell.specs.Said.{done}
use Rattle.lsm_cmd_shell.proofs.BatchLaws.{begun_already, begun_new}
use Rattle.lsm_cmd_shell.proofs.batching.begin.Goals as goal

pub returns-in-Some : goal.returns-in-Some
returns-in-Some g c = (begun_twice, begun_already c.args.begun.now _ c.in-Some.is, c.say_failed.ensures)

pub returns-in-None : goal.returns-in-None
returns-in-None g c = (done (codes "begun\n"), begun_new c.args.begun.now c.new.result c.in-None.is c.new.ensures, c.say.ensures)
