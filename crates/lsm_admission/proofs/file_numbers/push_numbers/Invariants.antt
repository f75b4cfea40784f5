use Rattle.std.proofs.Common.{◌≡◌, ◌++◌, take}
use Rattle.lsm_version.specs.FileNumbers.{file_numbers}
use Rattle.lsm_admission.proofs.file_numbers.push_numbers.Given as goal

abbrev pub invariant-loop-file : goal.invariant-loop-file
invariant-loop-file l = l.numbers.items ≡ l.initial.numbers.items ++ file_numbers
    (take l.file-index l.files)
