use Rattle.std.proofs.Common.{◌≡◌, map, take}
use Rattle.lsm_query.proofs.depths.table_numbers.Given as goal

abbrev pub invariant-loop-table : goal.invariant-loop-table
invariant-loop-table g l = l.numbers.items ≡ map (λ t. t.number) (take l.table-index l.level)
