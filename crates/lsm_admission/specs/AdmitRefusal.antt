-- Why the tables of a shape are not admitted (this project's rule).
use Rattle.std.specs.Prelude.{◌≡◌, ◌⊎◌, ℕ, List, ◌∷◌, ◌++◌, Some, length}
use Rattle.lsm_codec.specs.Lists.{Has}
use Rattle.lsm_manifest.specs.FileOrder.{TableFile}
use Rattle.lsm_manifest.specs.Shape.{Form}
use Rattle.lsm_shelf.specs.declared.shelf_fault.ShelfFault.{ShelfFault}
use Rattle.lsm_table.specs.Registry.{Table}
use Rattle.lsm_table.specs.ReadFault.{IsMemory}
use Rattle.lsm_table.specs.declared.read_fault.ReadFault.TheVariants.{Shelf, Table as OfTable}
use Rattle.lsm_verify.specs.FileRefusal.{IsMemoryRefusal, NamesNone}
use Rattle.lsm_verify.specs.LevelLayouts.{IsLayoutRefusal}
use Rattle.lsm_verify.specs.Loading.{all_files}
use Rattle.lsm_verify.specs.declared.check_fault.CheckFault.{CheckFault}
use Rattle.lsm_verify.specs.declared.check_fault.CheckFault.TheVariants.{Read, DoubleFile, Overlap}
use Rattle.lsm_verify.specs.declared.check_fault.CheckFault.TheVariants.{WrongRange, AgeOrder}
use Rattle.lsm_version.specs.FileNumbers.{AreDistinct, IsLeastTwice, numbers_of}
use Rattle.lsm_admission.specs.FoundTables.{AreTablesFound, IsBounds}

-- The file's keys are bounds, and the shelf keeps an image of its size under its number.
pub record IsThere (Keeps : ℕ → List ℕ → Type 0) (file : TableFile) : Type 0 where
  pub bounds : IsBounds file.smallest file.largest
  pub image : List ℕ
  pub kept : Keeps file.number image
  pub size : length image ≡ file.size

-- The file's keys are no bounds, or an image of another size is kept.
abbrev pub IsWrong : (List ℕ → Type 0) → TableFile → Type 0
IsWrong Keeps file = (IsBounds file.smallest file.largest → ⊥)
    ⊎ ((image : List ℕ) × Keeps image × (length image ≡ file.size → ⊥))

-- `Keeps` says which images the shelf keeps under the file's number, which each refusal names, and
-- `Refused` with which faults it refused to find that: the shelf refused; or memory ran out; or the
-- file is not as the shape says.
abbrev pub IsFileRefusal : (List ℕ → Type 0) → (ShelfFault → Type 0) → TableFile → CheckFault
    → Type 0
IsFileRefusal Keeps Refused file (Read number (Shelf fault)) =
    (number ≡ Some file.number) × Refused fault
IsFileRefusal Keeps Refused file (Read number (OfTable fault)) =
    (number ≡ Some file.number) × IsMemory fault
IsFileRefusal Keeps Refused file (WrongRange number) =
    (number ≡ file.number) × IsWrong Keeps file
IsFileRefusal Keeps Refused file (DoubleFile number) = ⊥
IsFileRefusal Keeps Refused file (Overlap level) = ⊥
IsFileRefusal Keeps Refused file (AgeOrder user) = ⊥

-- memory ran out beside the files, or one of them is refused, and each one before it is there
abbrev pub IsFilesRefusal : (ℕ → List ℕ → Type 0) → (ℕ → ShelfFault → Type 0) → List TableFile
    → CheckFault → Type 0
IsFilesRefusal Keeps Refused files fault = IsMemoryRefusal fault
    ⊎ ((front : List TableFile) × (file : TableFile) × (back : List TableFile)
    × (files ≡ front ++ file ∷ back)
    × ((f : TableFile) → Has front f → IsThere Keeps f)
    × IsFileRefusal (Keeps file.number) (Refused file.number) file fault)

-- Memory ran out beside the files, and none is named; or two files have one number; or a file is
-- refused; or the tables of all files were found, and a level from 1 on is refused. The age order
-- is not judged.
abbrev pub IsAdmitRefusal : (ℕ → List ℕ → Type 0) → (ℕ → ShelfFault → Type 0) → Form → CheckFault
    → Type 0
IsAdmitRefusal Keeps Refused shape (DoubleFile number) =
    IsLeastTwice (numbers_of shape.levels) number
IsAdmitRefusal Keeps Refused shape (Read file fault) =
    NamesNone file fault ⊎ (AreDistinct (numbers_of shape.levels)
    × IsFilesRefusal Keeps Refused (all_files shape.levels) (Read file fault))
IsAdmitRefusal Keeps Refused shape (WrongRange number) =
    AreDistinct (numbers_of shape.levels)
    × IsFilesRefusal Keeps Refused (all_files shape.levels) (WrongRange number)
IsAdmitRefusal Keeps Refused shape (Overlap level) =
    (tables : List (List Table)) × AreTablesFound Keeps shape tables
    × IsLayoutRefusal tables (Overlap level)
IsAdmitRefusal Keeps Refused shape (AgeOrder user) = ⊥
