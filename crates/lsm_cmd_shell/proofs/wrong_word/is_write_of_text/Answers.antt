use Rattle.lsm_cmd_shell.proofs.MistakeLaws.{found}
use Rattle.lsm_cmd_shell.proofs.wrong_word.is_write_of_text.Goals as goal

pub returns : goal.returns
returns c = rw c.is_some.ensures (found c.args.word.now c.in_ok-write_in.field-0 c.in_ok-write_in.ensures.some c.in_ok-write_in.ensures.none)
