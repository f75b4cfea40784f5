use Rattle.lsm_cmd_shell.proofs.PairLaws.{none_printed}
use Rattle.lsm_cmd_shell.proofs.pairs.print_version.Goals as goal

pub returns-in-Err-clause-printed : goal.returns-in-Err-clause-printed
returns-in-Err-clause-printed g c = none_printed g.S.Shelf.honest c.args.form c.args.bounds.now c.args.limit c.args.version.now _ _
