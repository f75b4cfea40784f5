-- The refusals of opening a database: their numbers and names (this project's rule).
use Rattle.std.specs.Prelude.{ℕ, List, codes}
use Rattle.lsm_shelf.specs.ShelfFault as shelf
use Rattle.lsm_journal.specs.RecoverFault as recover
use Rattle.lsm_verify.specs.CheckFault as check
use Rattle.lsm_journal.specs.declared.open_fault.OpenFault.{OpenFault}
use Rattle.lsm_journal.specs.declared.open_fault.OpenFault.TheVariants.{OutOfMemory, Shelf, Recover}
use Rattle.lsm_journal.specs.declared.open_fault.OpenFault.TheVariants.{Check, NumbersSpent}

abbrev pub number_of : OpenFault → ℕ
number_of OutOfMemory = 1
number_of (Shelf fault) = shelf.number_of fault
number_of (Recover fault) = recover.number_of fault
number_of (Check fault) = check.number_of fault
number_of NumbersSpent = 46

abbrev pub name_of : OpenFault → List ℕ
name_of OutOfMemory = codes "OutOfMemory"
name_of (Shelf fault) = shelf.name_of fault
name_of (Recover fault) = recover.name_of fault
name_of (Check fault) = check.name_of fault
name_of NumbersSpent = codes "NumbersSpent"
