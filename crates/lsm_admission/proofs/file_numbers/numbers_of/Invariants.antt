use Rattle.std.proofs.Common.{◌≡◌, ◌++◌, drop}
use Rattle.lsm_version.specs.FileNumbers.{numbers_of}
use Rattle.lsm_admission.proofs.file_numbers.numbers_of.Given as goal

abbrev pub invariant-loop-level : goal.invariant-loop-level
invariant-loop-level l = l.numbers.items ++ numbers_of (drop l.level-index l.levels) ≡ numbers_of
    l.levels
