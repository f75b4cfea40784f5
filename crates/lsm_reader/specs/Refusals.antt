-- Which read a shelf refused (this project's rule).
use Rattle.std.specs.Prelude.{ℕ}
use Rattle.lsm_shelf.specs.Asked.{Asked, ReadAt}
use Rattle.lsm_shelf.specs.declared.shelf_fault.ShelfFault.{ShelfFault}
use Rattle.lsm_table.specs.declared.read_fault.ReadFault.{ReadFault}
use Rattle.lsm_table.specs.declared.read_fault.ReadFault.TheVariants.{Shelf, Table}

-- It refused, with this fault, to give some bytes of the image of this number.
pub record ReadRefused (Refuses : Asked → ShelfFault → Type 0) (number : ℕ) (fault : ShelfFault)
    : Type 0 where
  pub offset : ℕ
  pub len : ℕ
  pub refused : Refuses (ReadAt number offset len) fault

-- A fault of the shelf is its refusal of bytes of the image of this number.
abbrev pub IsReadRefusal : (Asked → ShelfFault → Type 0) → ℕ → ReadFault → Type 0
IsReadRefusal Refuses number (Shelf fault) = ReadRefused Refuses number fault
IsReadRefusal Refuses number (Table fault) = Unit {0}

-- A fault of the shelf is its refusal of bytes of some image.
abbrev pub IsSomeReadRefusal : (Asked → ShelfFault → Type 0) → ReadFault → Type 0
IsSomeReadRefusal Refuses (Shelf fault) = (number : ℕ) × ReadRefused Refuses number fault
IsSomeReadRefusal Refuses (Table fault) = Unit {0}
