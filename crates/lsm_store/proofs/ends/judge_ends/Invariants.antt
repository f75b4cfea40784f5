use Rattle.std.proofs.Common.{All, take}
use Rattle.lsm_store.specs.Ends.{IsFaultless}
use Rattle.lsm_store.proofs.ends.judge_ends.Given as goal

abbrev pub invariant-loop-end : goal.invariant-loop-end
invariant-loop-end l = All IsFaultless (take l.end-index l.ends)
