use Rattle.std.proofs.Common.{drop}
use Rattle.lsm_cmd_convert.specs.Played.{IsCutShort}
use Rattle.lsm_cmd_convert.proofs.playing.program.is_cut_short.Given as goal

abbrev pub invariant-loop-reply : goal.invariant-loop-reply
invariant-loop-reply l = IsCutShort l.replies → IsCutShort (drop l.reply-index l.replies)
