use Rattle.std.proofs.Common.{◌≡◌, take}
use Rattle.std.specs.List.{filter}
use Rattle.lsm_version.specs.Overlap.{lies_over}
use Rattle.lsm_version.proofs.overlap.each_over.Given as goal

abbrev pub invariant-loop-table : goal.invariant-loop-table
invariant-loop-table g l = l.over.items ≡ filter (lies_over l.from l.to) (take l.table-index l.level)
