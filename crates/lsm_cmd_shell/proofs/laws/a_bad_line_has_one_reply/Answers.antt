use Rattle.lsm_cmd_shell.proofs.BadLines.{one_reply}
use Rattle.lsm_cmd_shell.proofs.laws.a_bad_line_has_one_reply.Goals as goal

pub returns : goal.returns
returns c = one_reply
