-- The refusals of a shelf: their numbers and names in docs/FORMATS.md (this project's rule).
use Rattle.std.specs.Prelude.{ℕ, List, codes}
use Rattle.lsm_shelf.specs.declared.shelf_fault.ShelfFault.{ShelfFault}
use Rattle.lsm_shelf.specs.declared.shelf_fault.ShelfFault.TheVariants.{OutOfMemory, Device}
use Rattle.lsm_shelf.specs.declared.shelf_fault.ShelfFault.TheVariants.{Missing, Taken}

abbrev pub number_of : ShelfFault → ℕ
number_of OutOfMemory = 1
number_of Device = 9
number_of Missing = 10
number_of (Taken n) = 11

abbrev pub name_of : ShelfFault → List ℕ
name_of OutOfMemory = codes "OutOfMemory"
name_of Device = codes "Device"
name_of Missing = codes "Missing"
name_of (Taken n) = codes "Taken"
