use Rattle.lsm_cmd_levels.proofs.DueLaws.{IsBest}
use Rattle.lsm_cmd_levels.proofs.due.due_level.Given as goal

-- the first that is due of the levels so far
abbrev pub invariant-loop-level : goal.invariant-loop-level
invariant-loop-level l = IsBest l.shape l.level l.best l.most
