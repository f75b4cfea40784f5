use Rattle.lsm_cmd_shell.proofs.AskLaws.{delete_writes, none_writes}
use Rattle.lsm_cmd_shell.proofs.WordTexts.{texts}
use Rattle.lsm_cmd_shell.proofs.writes.one_write_in.Goals as goal

pub returns-clause-some : goal.returns-clause-some
returns-clause-some c = delete_writes c.args.form (texts c.args.words.now) c.delete_in.result c.delete_in.ensures.some

pub returns-clause-none : goal.returns-clause-none
returns-clause-none c = none_writes c.args.form (texts c.args.words.now) c.delete_in.result (rw c.in_default.is at c.in_ok-write.ensures.none) c.delete_in.ensures.none
