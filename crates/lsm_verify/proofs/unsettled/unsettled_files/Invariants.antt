use Rattle.std.proofs.Common.{[], map}
use Rattle.lsm_verify.specs.Settled.{Adds, EachBelow}
use Rattle.lsm_verify.proofs.unsettled.unsettled_files.Given as goal

abbrev pub invariant-loop-level : goal.invariant-loop-level
invariant-loop-level g l = Adds (EachBelow l.level (map (λ v. v.items) l.levels)) [] l.numbers.items
