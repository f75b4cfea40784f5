use Rattle.std.proofs.Common.{rules}
use Rattle.lsm_cmd_convert.proofs.PlayOutcomes.{cut_is, done_is}
use Rattle.lsm_cmd_convert.proofs.playing.program.perform.Goals as goal

pub returns-then-is_cut_short-clause-ended : goal.returns-then-is_cut_short-clause-ended
returns-then-is_cut_short-clause-ended g c =
    cut_is (g.I.Read.remaining c.args.input.now.inner) c.in_ok-commands.commands.items c.in_ok-replies.replies (g.O.Write.contents c.args.out.now)
    (g.O.Write.contents c.print.new.out) c.in_ok-commands.ensures.script (rw c.deref.ensures.value at c.in_ok-replies.ensures.played) (search rules) (search rules)

pub returns-clause-ended : goal.returns-clause-ended
returns-clause-ended g c =
    done_is (g.I.Read.remaining c.args.input.now.inner) c.in_ok-commands.commands.items c.in_ok-replies.replies (g.O.Write.contents c.args.out.now)
    (g.O.Write.contents c.print.new.out) c.in_ok-commands.ensures.script (rw c.deref.ensures.value at c.in_ok-replies.ensures.played) (search rules) (search rules)
