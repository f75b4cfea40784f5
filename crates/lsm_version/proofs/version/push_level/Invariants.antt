use Rattle.std.proofs.Common.{◌≡◌, ◌++◌, map, take}
use Rattle.lsm_version.proofs.version.push_level.Given as goal

abbrev pub invariant-loop-table : goal.invariant-loop-table
invariant-loop-table g l = l.numbers.items ≡ l.initial.numbers.items ++ map (λ t. t.number) (take l.table-index l.level)
