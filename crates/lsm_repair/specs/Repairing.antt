-- A folder of which a new manifest is begun, of its whole tables (LevelDB's `db/repair.cc`; that
-- nothing is moved or removed is this project's rule).
use Rattle.std.specs.Prelude.{◌≡◌, ◌⊎◌, ℕ, ◌+◌, List, ◌∷◌, Ok}
use Rattle.std.specs.List.Sorted.{IsPermutation}
use Rattle.lsm_folder.specs.Calls.{Call, listed}
use Rattle.lsm_folder.specs.declared.folder_calls.FolderCalls.{Ghosts}
use Rattle.lsm_folder.specs.declared.mark.Mark as mark
use Rattle.lsm_shelf.specs.Refusals.{MayRefuse}
use Rattle.lsm_shelf.specs.Told.{fresh}
use Rattle.lsm_shelf.specs.declared.shelf_fault.ShelfFault.{ShelfFault}
use Rattle.lsm_storage.specs.Plans.{WriteStopped, done, start_plan}
use Rattle.lsm_storage.specs.declared.file.file_shelf.FileShelf.{FileShelf}
use Rattle.lsm_directory.specs.Folders.{stored_at, told_by}
use Rattle.lsm_directory.specs.Looking.{LooksStopped}
use Rattle.lsm_opening.specs.Names.{Among, IsLeastUnused}
use Rattle.lsm_repair.specs.FreeNumber.{IsHigh}
use Rattle.lsm_repair.specs.Mending.{IsMended, IsUnmended, PutsAtMost}
use Rattle.lsm_repair.specs.UnsureLogs.{AreUnsure}
use Rattle.lsm_repair.specs.declared.left_out.LeftOut.{LeftOut}
use Rattle.lsm_repair.specs.declared.mend_fault.MendFault.{MendFault}
use Rattle.lsm_repair.specs.declared.mend_fault.MendFault.TheVariants.{OutOfMemory, Unlisted}
use Rattle.lsm_repair.specs.declared.mend_fault.MendFault.TheVariants.{NumbersSpent, Unwritten}
use Rattle.lsm_repair.specs.declared.old_logs.OldLogs.{OldLogs}

-- The folder told its names, which are these in their order, and was asked for nothing else.
pub record TellsNames (names : List (List ℕ)) (old new : List Call) : Type 0 where
  pub told : List (List ℕ)
  pub call : new ≡ listed (Ok told) ∷ old
  pub same : IsPermutation told names

-- So it did, and the number is the least above those of all its files.
pub record PicksNumber (names : List (List ℕ)) (number : ℕ) (old new : List Call) : Type 0 where
  pub told : TellsNames names old new
  pub free : IsLeastUnused names number

-- It refused; or a file has a number above which there are no two.
abbrev pub IsUnpicked : MendFault → List Call → List Call → Type 0
IsUnpicked fault old new =
    ((e : ShelfFault) × (fault ≡ Unlisted e) × LooksStopped e old new)
    ⊎ ((fault ≡ NumbersSpent)
    × ((names : List (List ℕ)) × TellsNames names old new × Among names IsHigh))

module _ {C M : Type 0} (folders : Ghosts C M) (marks : mark.Ghosts M) where
  -- A new shelf on the folder put one table, of the least number above those of all files, with
  -- each entry of each whole table, and nothing else, and changed nothing else. Then the manifest
  -- that names just it was made durable, and `CURRENT` to name that; the folder was asked for
  -- nothing else. These logs may have come in before.
  pub record RepairsOn (old new : C) (tables entries : ℕ) (left : List LeftOut) (unsure : List ℕ)
      : Type 0 where
    pub names : List (List ℕ)
    pub number : ℕ
    pub looked : List Call
    pub picked : PicksNumber names number (folders.calls old) looked
    pub begun : FileShelf C M
    pub fresh_shelf : told_by folders begun ≡ fresh (folders.place old)
    pub ended : FileShelf C M
    pub manifest : List ℕ
    pub logs : OldLogs
    pub mended : IsMended (stored_at folders marks (told_by folders begun).place) MayRefuse number
        manifest logs tables entries left (told_by folders begun) (told_by folders ended)
    pub named : folders.calls new ≡ done (start_plan (number + 1) manifest) looked
    pub unsure_are : AreUnsure logs names unsure

  -- The manifest is not begun: no table is put, or memory ran out behind it; or one is, and the
  -- writing stopped.
  abbrev pub IsUnnamed : ℕ → List Call → List Call → (begun ended : FileShelf C M) → MendFault
      → Type 0
  IsUnnamed number looked last begun ended fault =
      (IsUnmended (stored_at folders marks (told_by folders begun).place) MayRefuse number
      (told_by folders begun) (told_by folders ended) fault × (last ≡ looked))
      ⊎ ((manifest : List ℕ) × (logs : OldLogs) × (tables : ℕ) × (entries : ℕ)
      × (left : List LeftOut) × (e : ShelfFault) × (fault ≡ Unwritten e)
      × IsMended (stored_at folders marks (told_by folders begun).place) MayRefuse number manifest
      logs tables entries left (told_by folders begun) (told_by folders ended)
      × WriteStopped (number + 1) manifest e looked last)

  -- So it is, and the shelf put a table of the number at most (`at_most`).
  pub record FailsBy (old new : C) (fault : MendFault) : Type 0 where
    pub names : List (List ℕ)
    pub number : ℕ
    pub looked : List Call
    pub picked : PicksNumber names number (folders.calls old) looked
    pub begun : FileShelf C M
    pub fresh_shelf : told_by folders begun ≡ fresh (folders.place old)
    pub ended : FileShelf C M
    pub at_most : PutsAtMost number (told_by folders begun) (told_by folders ended)
    pub why : IsUnnamed number looked (folders.calls new) begun ended fault

  -- The folder told no names, or no number is left; or memory ran out before there was a shelf; or
  -- so it was.
  abbrev pub FailsOn : (old new : C) → MendFault → Type 0
  FailsOn old new fault =
      IsUnpicked fault (folders.calls old) (folders.calls new)
      ⊎ (((fault ≡ OutOfMemory) × ((names : List (List ℕ)) × (number : ℕ)
      × PicksNumber names number (folders.calls old) (folders.calls new)))
      ⊎ FailsBy old new fault)
