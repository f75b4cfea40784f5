-- Which call the shelf refused a check (this project's rule).
use Rattle.std.specs.Prelude.{ℕ, ◌⊎◌}
use Rattle.lsm_shelf.specs.Asked.{Asked, Load}
use Rattle.lsm_shelf.specs.declared.shelf_fault.ShelfFault.{ShelfFault}
use Rattle.lsm_table.specs.declared.read_fault.ReadFault.{ReadFault}
use Rattle.lsm_table.specs.declared.read_fault.ReadFault.TheVariants.{Shelf, Table}
use Rattle.lsm_reader.specs.Refusals.{IsReadRefusal, ReadRefused}
use Rattle.lsm_query.specs.Unread.{IsOfFile}
use Rattle.lsm_verify.specs.declared.check_fault.CheckFault.{CheckFault}
use Rattle.lsm_verify.specs.declared.check_fault.CheckFault.TheVariants.{Read, DoubleFile, Overlap}
use Rattle.lsm_verify.specs.declared.check_fault.CheckFault.TheVariants.{WrongRange, AgeOrder}

-- A fault of the shelf is its refusal to load the file of this number, or to give bytes of it.
abbrev pub IsFileAsked : (Asked → ShelfFault → Type 0) → ℕ → ReadFault → Type 0
IsFileAsked Refuses number (Shelf fault) =
    Refuses (Load number) fault ⊎ ReadRefused Refuses number fault
IsFileAsked Refuses number (Table fault) = Unit {0}

-- so it is of the file that is named, and one is named
abbrev pub IsCheckAsked : (Asked → ShelfFault → Type 0) → CheckFault → Type 0
IsCheckAsked Refuses (Read file fault) = IsOfFile (IsFileAsked Refuses) file fault
IsCheckAsked Refuses (DoubleFile number) = Unit {0}
IsCheckAsked Refuses (Overlap level) = Unit {0}
IsCheckAsked Refuses (WrongRange number) = Unit {0}
IsCheckAsked Refuses (AgeOrder user) = Unit {0}

-- In a second look it is its refusal to give bytes.
abbrev pub IsLookAsked : (Asked → ShelfFault → Type 0) → CheckFault → Type 0
IsLookAsked Refuses (Read file fault) = IsOfFile (IsReadRefusal Refuses) file fault
IsLookAsked Refuses (DoubleFile number) = Unit {0}
IsLookAsked Refuses (Overlap level) = Unit {0}
IsLookAsked Refuses (WrongRange number) = Unit {0}
IsLookAsked Refuses (AgeOrder user) = Unit {0}
