use Rattle.lsm_cmd_shell.proofs.AskLaws.{last_asks, last_look}
use Rattle.lsm_cmd_shell.proofs.ask_line.ask_in.Goals as goal

pub returns-in-Some-clause-some : goal.returns-in-Some-clause-some
returns-in-Some-clause-some c = (rw c.in-Some.is at c.bare_in.ensures.some) c.args.form

pub returns-clause-some : goal.returns-clause-some
returns-clause-some c = last_asks c.args.form c.args.line.now c.other_in.result c.other_in.ensures.some

pub returns-clause-none : goal.returns-clause-none
returns-clause-none c =
    last_look c.args.form c.args.line.now c.other_in.result ((rw c.in_default.is at c.bare_in.ensures.none) c.args.form) (rw c.in_default-2.is at c.in_ok-command.ensures.none)
    c.other_in.ensures.none
