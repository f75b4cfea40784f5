use Rattle.std.proofs.Common.{take}
use Rattle.lsm_verify.specs.Settled.{Adds, OneAgainst}
use Rattle.lsm_version.specs.Versions.{file_of}
use Rattle.lsm_verify.proofs.unsettled.compare_with_level.Given as goal

abbrev pub invariant-loop-index : goal.invariant-loop-index
invariant-loop-index g l = Adds (OneAgainst (file_of l.level l.table) l.deeper (take l.index l.tables)) l.fn.numbers.items l.numbers.items
