use Rattle.std.proofs.Common.{None}
use Rattle.lsm_cmd_shell.specs.Beside.{IsRepliedBeside, waiting}
use Rattle.lsm_cmd_shell.specs.Keeping.{AreWrittenIn}
use Rattle.lsm_cmd_shell.proofs.TalkLaws.{SoFar}
use Rattle.lsm_cmd_shell.proofs.beside.talk_beside.Given as goal

abbrev pub invariant-loop-turn : goal.invariant-loop-turn
invariant-loop-turn g l = record {
  talk : SoFar (IsRepliedBeside g.S.Shelf.honest g.K.Invariant.keeps l.form) l.bails l.fn.lines.left l.lines.left l.outcome (waiting l.fn.memory l.fn.shelf l.fn.desk None) (waiting l.memory l.shelf l.desk l.begun) (g.O.Write.contents l.fn.out)
      (g.O.Write.contents l.out);
  queued : AreWrittenIn l.form l.fn.lines.left l.begun;
}
