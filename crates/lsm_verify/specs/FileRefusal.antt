-- Why a check refuses a file of a shape (this project's rule).
use Rattle.std.specs.Prelude.{◌≡◌, ◌⊎◌, ℕ, false, List, ◌∷◌, ◌++◌, Option, None, Some, Err}
use Rattle.lsm_codec.specs.Lists.{Has}
use Rattle.lsm_shelf.specs.declared.shelf_fault.ShelfFault.{ShelfFault}
use Rattle.lsm_table.specs.declared.read_fault.ReadFault.TheVariants.{Shelf, Table}
use Rattle.lsm_table.specs.declared.read_fault.ReadFault.{ReadFault}
use Rattle.lsm_table.specs.Reading.{is_memory}
use Rattle.lsm_table.specs.Table.{IsTable}
use Rattle.lsm_table.specs.TableReading.{table_at}
use Rattle.lsm_table.specs.HeldTable.{entries_in}
use Rattle.lsm_manifest.specs.FileOrder.{TableFile}
use Rattle.lsm_verify.specs.declared.check_fault.CheckFault.{CheckFault}
use Rattle.lsm_verify.specs.declared.check_fault.CheckFault.TheVariants.{Read, DoubleFile, Overlap}
use Rattle.lsm_verify.specs.declared.check_fault.CheckFault.TheVariants.{WrongRange, AgeOrder}
use Rattle.lsm_verify.specs.CheckedFiles.{IsImageOf}
use Rattle.lsm_query.specs.Unread.{IsWant}

-- `Stored` says which images the shelf holds under the file's number, which each refusal names, and
-- `Refused` with which faults it refused to load that: the shelf refused this load; or memory ran
-- out; or a stored image is no table; or it is a table, and not the file's.
abbrev pub IsFileRefusal : (List ℕ → Type 0) → (ShelfFault → Type 0) → ℕ → TableFile → CheckFault
    → Type 0
IsFileRefusal Stored Refused last file (Read number (Shelf fault)) =
    (number ≡ Some file.number) × Refused fault
IsFileRefusal Stored Refused last file (Read number (Table fault)) =
    (number ≡ Some file.number) × (is_memory fault ≡ false
    → (image : List ℕ) × Stored image × (table_at image ≡ Err fault))
IsFileRefusal Stored Refused last file (WrongRange number) =
    (number ≡ file.number) × ((image : List ℕ) × Stored image × IsTable image (entries_in image)
    × (IsImageOf last file image → ⊥))
IsFileRefusal Stored Refused last file (DoubleFile number) = ⊥
IsFileRefusal Stored Refused last file (Overlap level) = ⊥
IsFileRefusal Stored Refused last file (AgeOrder user) = ⊥

-- Memory ran out, and no file is named.
abbrev pub NamesNone : Option ℕ → ReadFault → Type 0
NamesNone None fault = IsWant fault
NamesNone (Some number) fault = ⊥

abbrev pub IsMemoryRefusal : CheckFault → Type 0
IsMemoryRefusal (Read number fault) = NamesNone number fault
IsMemoryRefusal (WrongRange number) = ⊥
IsMemoryRefusal (DoubleFile number) = ⊥
IsMemoryRefusal (Overlap level) = ⊥
IsMemoryRefusal (AgeOrder user) = ⊥

-- the shelf holds the file's table
abbrev pub IsGood : (ℕ → List ℕ → Type 0) → ℕ → TableFile → Type 0
IsGood Stored last file = (image : List ℕ) × Stored file.number image × IsImageOf last file image

-- memory ran out beside the files, or one of them is refused, and each one before it is good
abbrev pub IsFilesRefusal : (ℕ → List ℕ → Type 0) → (ℕ → ShelfFault → Type 0) → ℕ → List TableFile
    → CheckFault → Type 0
IsFilesRefusal Stored Refused last files fault = IsMemoryRefusal fault
    ⊎ ((front : List TableFile) × (file : TableFile) × (back : List TableFile)
    × (files ≡ front ++ file ∷ back)
    × ((f : TableFile) → Has front f → IsGood Stored last f)
    × IsFileRefusal (Stored file.number) (Refused file.number) last file fault)
