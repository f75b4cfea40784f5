-- How a command holds the lock of a folder (this project's rule; the file `LOCK` is LevelDB's,
-- `LockFileName` of `db/filename.cc`).
use Rattle.std.specs.Prelude.{◌≡◌, Bool, true, false, List, ◌∷◌, Result, Ok, Err, codes}
use Rattle.lsm_folder.specs.Calls.{Call, locked}
use Rattle.lsm_folder.specs.declared.folder_fault.FolderFault.{FolderFault}
use Rattle.lsm_folder.specs.declared.folder_fault.FolderFault.TheVariants.{Missing}
use Rattle.lsm_folder.specs.declared.lock_kind.LockKind.{LockKind}
use Rattle.lsm_folder.specs.declared.lock_kind.LockKind.TheVariants.{Shared, Exclusive}
use Rattle.lsm_storage.specs.FolderFault.{device_of}
use Rattle.lsm_shelf.specs.Told.{NotNamed}
use Rattle.lsm_directory.specs.declared.faults.directory_fault.DirectoryFault.{DirectoryFault}
use Rattle.lsm_directory.specs.declared.faults.directory_fault.DirectoryFault.TheVariants.{
  OutOfMemory,
  Write,
  Shelf,
  Manifest,
  Tables,
  Read,
  NumbersSpent,
  Locked,
  UnflushedLog,
  TornManifest,
  LaterManifest,
  RocksDbFiles,
  Absent,
}

-- With this answer a command goes on: the lock is held; or the command only reads, and there is no
-- file to lock.
abbrev pub LetsGoOn : Result Bool FolderFault → LockKind → Type 0
LetsGoOn (Ok held) kind = held ≡ true
LetsGoOn (Err fault) Shared = fault ≡ Missing
LetsGoOn (Err fault) Exclusive = ⊥

-- The folder was asked for the lock of `LOCK`, and let the command go on.
abbrev pub IsHeld : LockKind → List Call → List Call → Type 0
IsHeld kind old new = (answer : Result Bool FolderFault)
    × (new ≡ locked (codes "LOCK") kind answer ∷ old) × LetsGoOn answer kind

-- It was asked for it, and did not: another has the lock, or the folder refused.
abbrev pub IsUnheld : LockKind → DirectoryFault → List Call → List Call → Type 0
IsUnheld kind Locked old new = new ≡ locked (codes "LOCK") kind (Ok false) ∷ old
IsUnheld kind (Shelf e) old new =
    (fault : FolderFault) × (new ≡ locked (codes "LOCK") kind (Err fault) ∷ old)
    × (LetsGoOn (Err fault) kind → ⊥) × (e ≡ device_of fault)
IsUnheld kind OutOfMemory old new = ⊥
IsUnheld kind Write old new = ⊥
IsUnheld kind (Manifest fault) old new = ⊥
IsUnheld kind (Tables fault) old new = ⊥
IsUnheld kind (Read fault) old new = ⊥
IsUnheld kind NumbersSpent old new = ⊥
IsUnheld kind (UnflushedLog number) old new = ⊥
IsUnheld kind (TornManifest rest) old new = ⊥
IsUnheld kind (LaterManifest number) old new = ⊥
IsUnheld kind RocksDbFiles old new = ⊥
IsUnheld kind Absent old new = ⊥

-- a refusal before a directory is read: another has the lock, or the folder refused
abbrev pub IsFolderFault : DirectoryFault → Type 0
IsFolderFault Locked = Unit {0}
IsFolderFault (Shelf e) = NotNamed e
IsFolderFault OutOfMemory = ⊥
IsFolderFault Write = ⊥
IsFolderFault (Manifest fault) = ⊥
IsFolderFault (Tables fault) = ⊥
IsFolderFault (Read fault) = ⊥
IsFolderFault NumbersSpent = ⊥
IsFolderFault (UnflushedLog number) = ⊥
IsFolderFault (TornManifest rest) = ⊥
IsFolderFault (LaterManifest number) = ⊥
IsFolderFault RocksDbFiles = ⊥
IsFolderFault Absent = ⊥
