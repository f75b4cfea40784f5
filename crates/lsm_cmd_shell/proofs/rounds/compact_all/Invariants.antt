use Rattle.lsm_script.specs.Steps.{stage}
use Rattle.lsm_cmd_shell.specs.Rounds.{AreRounds}
use Rattle.lsm_cmd_shell.proofs.rounds.compact_all.Given as goal

abbrev pub invariant-loop-count : goal.invariant-loop-count
invariant-loop-count g l = AreRounds g.S.Shelf.honest l.count (stage l.fn.state l.fn.desk l.fn.shelf) (stage l.state l.desk l.shelf)
