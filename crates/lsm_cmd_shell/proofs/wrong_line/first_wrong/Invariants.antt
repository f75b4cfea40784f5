use Rattle.std.proofs.Common.{length}
use Rattle.lsm_cmd_shell.proofs.MistakeLaws.{Alike}
use Rattle.lsm_cmd_shell.proofs.wrong_line.first_wrong.Given as goal

abbrev pub invariant-words : goal.invariant-words
invariant-words l = Alike l.form l.number l.wanted l.rest l.fn.wants l.fn.words

abbrev pub decreases-words : goal.decreases-words
decreases-words l = length l.rest
