use Rattle.std.proofs.Common.{◌≡◌, take}
use Rattle.lsm_merge.proofs.copies.again_all.Given as goal

abbrev pub invariant-loop-table : goal.invariant-loop-table
invariant-loop-table g l = l.copies.items ≡ take l.table-index l.tables
