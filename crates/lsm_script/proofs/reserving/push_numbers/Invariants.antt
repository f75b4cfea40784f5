use Rattle.std.proofs.Common.{◌≡◌, ◌++◌, take}
use Rattle.lsm_merge.specs.Inputs.{numbers_of}
use Rattle.lsm_script.proofs.reserving.push_numbers.Given as goal

abbrev pub invariant-loop-table : goal.invariant-loop-table
invariant-loop-table g l = l.numbers.items ≡ l.initial.numbers.items ++ numbers_of (take l.table-index l.tables)
