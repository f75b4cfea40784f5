use Rattle.std.proofs.Common.{take}
use Rattle.lsm_import.specs.Copies.{IsAbove}
use Rattle.lsm_import.proofs.fresh_numbers.number_above.Given as goal

abbrev pub invariant-loop-file : goal.invariant-loop-file
invariant-loop-file l = IsAbove l.from (take l.file-index l.files) l.next
