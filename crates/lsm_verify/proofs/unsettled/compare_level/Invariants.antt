use Rattle.std.proofs.Common.{take, map}
use Rattle.lsm_verify.specs.Settled.{Adds, SomeBelow}
use Rattle.lsm_verify.proofs.unsettled.compare_level.Given as goal

abbrev pub invariant-loop-index : goal.invariant-loop-index
invariant-loop-index g l = Adds (SomeBelow l.level (take l.index l.tables) (map (λ v. v.items) l.levels)) l.fn.numbers.items l.numbers.items
