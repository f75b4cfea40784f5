use Rattle.lsm_script.proofs.CommandLaws.{last_look}
use Rattle.lsm_script.proofs.WordLaws.{texts}
use Rattle.lsm_script.proofs.command_line.command_of.Goals as goal

pub returns-clause-none : goal.returns-clause-none
returns-clause-none c =
    last_look c.args.form (texts c.args.words.now) c.ingest_in.result (c.in_default.ensures.none c.args.form) (c.in_default-numbered_in.ensures.none c.args.form)
    (rw c.in_default-2.is at c.in_ok-command.ensures.none) (rw c.in_default-3.is at c.in_ok-command-2.ensures.none)
    (rw c.in_default-4.is at c.in_ok-command-3.ensures.none) c.ingest_in.ensures.none

pub returns-in-Some-clause-some : goal.returns-in-Some-clause-some
returns-in-Some-clause-some c = c.in-Some.ensures.some c.args.form

pub returns-in-Some-numbered_in-clause-some : goal.returns-in-Some-numbered_in-clause-some
returns-in-Some-numbered_in-clause-some c = c.in-Some-numbered_in.ensures.some c.args.form
