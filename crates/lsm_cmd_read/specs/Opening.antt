-- Why a directory is not opened (LevelDB's `VersionSet::Recover`; the judgment of its tables is
-- this project's rule).
use Rattle.std.specs.Prelude.{ℕ, List}
use Rattle.lsm_shelf.specs.Asked.{Asked}
use Rattle.lsm_shelf.specs.declared.shelf_fault.ShelfFault.{ShelfFault}
use Rattle.lsm_shelf.specs.Told.{Told}
use Rattle.lsm_journal.specs.Finding.{IsNoVersion, IsTakenLast, IsUnlisted, IsWithoutRoom}
use Rattle.lsm_journal.specs.Recovering.{IsRecoverRefusal}
use Rattle.lsm_directory.specs.declared.faults.directory_fault.DirectoryFault.{DirectoryFault}
use Rattle.lsm_directory.specs.declared.faults.directory_fault.DirectoryFault.TheVariants.{
  OutOfMemory,
  Write,
  Shelf,
  Manifest,
  Tables,
  Read,
  NumbersSpent,
  Locked,
  UnflushedLog,
  TornManifest,
  LaterManifest,
  RocksDbFiles,
  Absent,
}

-- The manifest is refused; or it was read and comes to a shape whose tables are refused; or these
-- are a version, and the shelf did not list its tables; or a number of them is the last one. Memory
-- may run out on the way. `Stored` says which images the shelf gave for which numbers, `Refused`
-- which calls it refused with which faults; a refusal of the shelf comes with a count that rose.
abbrev pub IsOpenRefusal : (ℕ → List ℕ → Type 0) → (Asked → ShelfFault → Type 0) → Type 0
    → DirectoryFault → Told → Told → Type 0
IsOpenRefusal Stored Refused Honest (Manifest fault) was is = IsRecoverRefusal Refused fault was is
IsOpenRefusal Stored Refused Honest (Tables fault) was is =
    IsNoVersion Stored Refused Honest fault was is
IsOpenRefusal Stored Refused Honest (Shelf fault) was is = IsUnlisted Refused Honest fault was is
IsOpenRefusal Stored Refused Honest NumbersSpent was is = IsTakenLast Honest was is
IsOpenRefusal Stored Refused Honest OutOfMemory was is = IsWithoutRoom was is
IsOpenRefusal Stored Refused Honest Write was is = ⊥
IsOpenRefusal Stored Refused Honest (Read fault) was is = ⊥
IsOpenRefusal Stored Refused Honest Locked was is = ⊥
IsOpenRefusal Stored Refused Honest (UnflushedLog number) was is = ⊥
IsOpenRefusal Stored Refused Honest (TornManifest rest) was is = ⊥
IsOpenRefusal Stored Refused Honest (LaterManifest later) was is = ⊥
IsOpenRefusal Stored Refused Honest RocksDbFiles was is = ⊥
IsOpenRefusal Stored Refused Honest Absent was is = ⊥
