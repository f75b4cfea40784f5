use Rattle.std.proofs.Common.{map}
use Rattle.lsm_verify.specs.Settled.{Adds, OneBelow}
use Rattle.lsm_version.specs.Versions.{file_of}
use Rattle.lsm_verify.proofs.unsettled.compare_below.Given as goal

abbrev pub invariant-loop-deeper : goal.invariant-loop-deeper
invariant-loop-deeper g l = Adds (OneBelow (file_of l.level l.table) l.level l.deeper (map (λ v. v.items) l.levels)) l.fn.numbers.items l.numbers.items
