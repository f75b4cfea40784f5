use Rattle.std.proofs.Common.{None}
use Rattle.lsm_script.specs.Steps.{stage}
use Rattle.lsm_cmd_shell.specs.Batching.{standing}
use Rattle.lsm_cmd_shell.specs.Talk.{IsReplied}
use Rattle.lsm_cmd_shell.proofs.TalkLaws.{SoFar}
use Rattle.lsm_cmd_shell.proofs.talking.talk.Given as goal

abbrev pub invariant-loop-turn : goal.invariant-loop-turn
invariant-loop-turn g l =
    SoFar (IsReplied g.S.Shelf.honest l.form) l.bails l.fn.lines.left l.lines.left l.outcome (standing (stage l.fn.state l.fn.desk l.fn.shelf) None) (standing (stage l.state l.desk l.shelf) l.begun) (g.O.Write.contents l.fn.out)
    (g.O.Write.contents l.out)
