use Rattle.std.proofs.Common.{take}
use Rattle.lsm_picker.specs.Outermost.{MayGoFirst}
use Rattle.lsm_picker.proofs.outermost.may_go_first.Given as goal

abbrev pub invariant-loop-other : goal.invariant-loop-other
invariant-loop-other g l = MayGoFirst (take l.other-index l.tables) l.table
