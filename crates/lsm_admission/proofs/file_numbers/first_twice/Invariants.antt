use Rattle.std.proofs.Common.{◌≡◌, length}
use Rattle.lsm_version.specs.FileNumbers.{first_twice}
use Rattle.lsm_admission.proofs.file_numbers.first_twice.Given as goal

abbrev pub invariant-loop-rest : goal.invariant-loop-rest
invariant-loop-rest l = first_twice l.fn.numbers ≡ first_twice l.rest

abbrev pub decreases-loop-rest : goal.decreases-loop-rest
decreases-loop-rest l = length l.rest
