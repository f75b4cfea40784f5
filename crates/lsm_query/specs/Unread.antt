-- Which file is named where tables could not be read together (this project's rule).
use Rattle.std.specs.Prelude.{ℕ, Option, None, Some}
use Rattle.lsm_table.specs.declared.read_fault.ReadFault.{ReadFault}
use Rattle.lsm_table.specs.declared.read_fault.ReadFault.TheVariants.{Shelf, Table}
use Rattle.lsm_table.specs.ReadFault.{IsMemory}

-- memory ran out over the bytes of a table
abbrev pub IsWant : ReadFault → Type 0
IsWant (Shelf fault) = ⊥
IsWant (Table fault) = IsMemory fault

-- The file has a number of which `P` tells; or none is named, and memory ran out.
abbrev pub NamesOne : (ℕ → Type 0) → Option ℕ → ReadFault → Type 0
NamesOne P None fault = IsWant fault
NamesOne P (Some number) fault = P number

-- The file has a number of which, with the fault, `P` tells; or none is named, and it is no fault
-- of the shelf.
abbrev pub IsOfFile : (ℕ → ReadFault → Type 0) → Option ℕ → ReadFault → Type 0
IsOfFile P None (Shelf fault) = ⊥
IsOfFile P None (Table fault) = Unit {0}
IsOfFile P (Some number) fault = P number fault
