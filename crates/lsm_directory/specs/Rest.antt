-- What is told of bytes at a manifest's end that hold no whole record: this project's rule.
use Rattle.std.specs.Prelude.{◌≡◌, ◌<◌, ℕ, List, ◌++◌, codes, decimal}
use Rattle.lsm_directory.specs.Logs.{IsFirstUnread, NoneUnread}
use Rattle.lsm_directory.specs.declared.faults.directory_fault.DirectoryFault.{DirectoryFault}
use Rattle.lsm_directory.specs.declared.faults.directory_fault.DirectoryFault.TheVariants.{
  OutOfMemory,
  Write,
  Shelf,
  Manifest,
  Tables,
  Read,
  NumbersSpent,
  Locked,
  UnflushedLog,
  TornManifest,
  LaterManifest,
  RocksDbFiles,
  Absent,
}
use Rattle.lsm_directory.specs.declared.folder.folder_file.FolderFile.{FolderFile}

-- `note: the last B bytes of the manifest hold no whole record, and are not read`
unfoldable pub rest_note : ℕ → List ℕ
rest_note rest = codes "note: the last "
    ++ (decimal rest ++ codes " bytes of the manifest hold no whole record, and are not read\n")

-- Nothing is left out: the manifest ends with a whole record, and each log is read.
abbrev pub LeavesNothingOut : (rest log prev : ℕ) → List FolderFile → Type 0
LeavesNothingOut rest log prev others = (rest ≡ 0) × NoneUnread log prev others

-- This says what is left out first: bytes at the manifest's end; or this log.
abbrev pub IsLeftOut : (rest log prev : ℕ) → List FolderFile → DirectoryFault → Type 0
IsLeftOut rest log prev others (TornManifest torn) = (torn ≡ rest) × (0 < rest)
IsLeftOut rest log prev others (UnflushedLog number) =
    (rest ≡ 0) × IsFirstUnread log prev others number
IsLeftOut rest log prev others OutOfMemory = ⊥
IsLeftOut rest log prev others Write = ⊥
IsLeftOut rest log prev others (Shelf fault) = ⊥
IsLeftOut rest log prev others (Manifest fault) = ⊥
IsLeftOut rest log prev others (Tables fault) = ⊥
IsLeftOut rest log prev others (Read fault) = ⊥
IsLeftOut rest log prev others NumbersSpent = ⊥
IsLeftOut rest log prev others Locked = ⊥
IsLeftOut rest log prev others (LaterManifest number) = ⊥
IsLeftOut rest log prev others RocksDbFiles = ⊥
IsLeftOut rest log prev others Absent = ⊥
