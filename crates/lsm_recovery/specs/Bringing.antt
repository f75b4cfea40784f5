-- The writes of logs come into the database of their folder, and why they don't (LevelDB's
-- `DBImpl::RecoverLogFile`; that they come in as one table is this project's rule).
use Rattle.std.specs.Prelude.{◌≡◌, ◌⊎◌, ℕ, List, [], ◌∷◌, ◌++◌, All, length}
use Rattle.lsm_codec.specs.Entries.{Entry, answer}
use Rattle.lsm_codec.specs.Keys.{UserKey}
use Rattle.lsm_shelf.specs.Asked.{Asked, ListTables, Load}
use Rattle.lsm_shelf.specs.Told.{Becomes, Told, listing}
use Rattle.lsm_shelf.specs.declared.shelf_fault.ShelfFault.{ShelfFault}
use Rattle.lsm_manifest.specs.Shape.{Form, IsRefused, IsReplayed}
use Rattle.lsm_manifest.specs.declared.replay_fault.ReplayFault.{ReplayFault}
use Rattle.lsm_model.specs.Files.{all_entries}
use Rattle.lsm_verify.specs.CheckRefusal.{IsOfShape, IsRefusal}
use Rattle.lsm_verify.specs.declared.check_fault.CheckFault.{CheckFault}
use Rattle.lsm_version.specs.Versions.{IsSound, Levels, files}
use Rattle.lsm_batch.specs.Batches.{entries_from}
use Rattle.lsm_wal.specs.declared.write_batch.WriteBatch.{WriteBatch}
use Rattle.lsm_directory.specs.Logs.{IsFirstUnread, NoneUnread}
use Rattle.lsm_directory.specs.declared.folder.folder_file.FolderFile.{FolderFile}
use Rattle.lsm_opening.specs.WriterFault.{of_shelf}
use Rattle.lsm_opening.specs.declared.faults.writer_fault.WriterFault.TheVariants.{UnflushedLog}
use Rattle.lsm_import.specs.Answers.{source_answer}
use Rattle.lsm_import.specs.Copied.{HasLogs, IsBegun, IsBeginRefusal, IsLogsRefusal, usual}
use Rattle.lsm_import.specs.Standing.{IsNotStanding, IsStanding}
use Rattle.lsm_import.specs.declared.copied.Copied.{Copied}
use Rattle.lsm_import.specs.declared.import_fault.ImportFault.{ImportFault}
use Rattle.lsm_import.specs.declared.import_fault.ImportFault.TheVariants.{Replay}
use Rattle.lsm_log_files.specs.Logs.{AreLogs}
use Rattle.lsm_recovery.specs.declared.bring_fault.BringFault.{BringFault}
use Rattle.lsm_recovery.specs.declared.bring_fault.BringFault.TheVariants.{OutOfMemory, Folder}
use Rattle.lsm_recovery.specs.declared.bring_fault.BringFault.TheVariants.{Bring, Tables}

-- the entries of all tables
abbrev pub entries_of : Levels → List Entry
entries_of version = all_entries (files version)

-- The shelf listed its tables. The numbers are those of the logs, and behind them the tables'.
abbrev pub AreTaken : (logs numbers : List ℕ) → Told → Told → Type 0
AreTaken logs numbers was is = (tables : List ℕ) × (numbers ≡ logs ++ tables)
    × Becomes (listing tables was) is

-- The shelf gave the image of each table of the version, for that table's number. `Into` says which
-- images it gave for which numbers.
abbrev pub AreGiven : (ℕ → List ℕ → Type 0) → Levels → Type 0
AreGiven Into version = All (All (λ t. Into t.number t.image)) version.tables

-- The tables were read from the shelf: they are a version, sound over an honest shelf.
pub record IsJudged (Into : ℕ → List ℕ → Type 0) (Honest : Type 0) (standing : Copied)
    : Type 0 where
  pub shape : Form
  pub replayed : IsReplayed (standing.edit ∷ []) shape
  pub version : Levels
  pub of_shape : IsOfShape shape version
  pub given : AreGiven Into version
  pub sound : Honest → IsSound version

-- The tables were judged, and one of the batches' last writes came behind them, if they write
-- anything.
pub record IsFilled (Into : ℕ → List ℕ → Type 0) (Honest : Type 0) (batches : List WriteBatch)
    (standing whole : Copied) : Type 0 where
  pub judged : IsJudged Into Honest standing
  pub logs : HasLogs Into batches standing whole

-- So it was, with so many entries, and then the manifest was begun: its one edit names just these
-- tables.
pub record IsBroughtIn (Into : ℕ → List ℕ → Type 0) (Honest : Type 0) (batches : List WriteBatch)
    (standing : Copied) (count : ℕ) (was is : Told) : Type 0 where
  pub whole : Copied
  pub filled : IsFilled Into Honest batches standing whole
  pub counted : count ≡ length filled.logs.batch
  pub begun : IsBegun whole was is

-- So it was with the database of the shape, whose tables stay as they were. The log number of the
-- manifest is above the logs among these files, and above each table that the shelf listed; it has
-- no previous log. So none of the files is a log to read from then on. At its last sequence the
-- database answers of each key what LevelDB reads of the tables with the logs.
pub record BringsIn (Into : ℕ → List ℕ → Type 0) (Honest : Type 0) (files : List FolderFile)
    (shape : Form) (batches : List WriteBatch) (count : ℕ) (was is : Told) : Type 0 where
  pub logs : List ℕ
  pub those : AreLogs shape.log shape.prev_log files logs
  pub tables : List ℕ
  pub mid : Told
  pub listed : Becomes (listing tables was) mid
  pub standing : Copied
  pub stands : IsStanding shape (logs ++ tables) standing
  pub flushed : NoneUnread stands.next 0 files
  pub brought : IsBroughtIn Into Honest batches standing count mid is
  pub answers : Honest → (key : UserKey)
      → answer (entries_from brought.filled.logs.first brought.filled.logs.batch
      ++ entries_of brought.filled.judged.version) key brought.whole.last
      ≡ source_answer (entries_of brought.filled.judged.version) shape.last batches key

-- ---- refusals

-- memory ran out, or the tables were not listed
abbrev pub IsUnlisted : (Asked → ShelfFault → Type 0) → BringFault → Type 0
IsUnlisted Denied fault = (fault ≡ OutOfMemory)
    ⊎ ((e : ShelfFault) × (fault ≡ Folder (of_shelf e)) × Denied ListTables e)

-- The tables are no version: the edit comes to no shape, or it does, and its tables are refused; or
-- memory ran out.
abbrev pub IsUnjudged : (ℕ → List ℕ → Type 0) → (Asked → ShelfFault → Type 0) → Type 0 → Copied
    → BringFault → Type 0
IsUnjudged Into Denied Honest standing fault =
    (fault ≡ OutOfMemory)
    ⊎ (((e : ReplayFault) × (fault ≡ Bring (Replay e)) × IsRefused (standing.edit ∷ []) e)
    ⊎ ((e : CheckFault) × (fault ≡ Tables e) × ((shape : Form)
    × IsReplayed (standing.edit ∷ []) shape
    × IsRefusal Into (λ number. Denied (Load number)) Honest shape e)))

-- they are none, or the writes do not come in
abbrev pub IsUnfilled : (ℕ → List ℕ → Type 0) → (Asked → ShelfFault → Type 0) → Type 0
    → List WriteBatch → Copied → BringFault → Type 0
IsUnfilled Into Denied Honest batches standing fault =
    IsUnjudged Into Denied Honest standing fault
    ⊎ ((e : ImportFault) × (fault ≡ Bring e) × IsLogsRefusal Denied usual batches standing e)

-- the manifest is not begun
abbrev pub IsUnbegun : (Asked → ShelfFault → Type 0) → Copied → BringFault → Type 0
IsUnbegun Denied whole fault =
    (e : ImportFault) × (fault ≡ Bring e) × IsBeginRefusal Denied whole e

-- so it was; or the writes are in a table, and the manifest is not begun
abbrev pub IsUnbrought : (ℕ → List ℕ → Type 0) → (Asked → ShelfFault → Type 0) → Type 0
    → List WriteBatch → Copied → BringFault → Type 0
IsUnbrought Into Denied Honest batches standing fault =
    IsUnfilled Into Denied Honest batches standing fault
    ⊎ ((whole : Copied) × HasLogs Into batches standing whole × IsUnbegun Denied whole fault)

-- A log would still be read by a manifest of this log number, and the first of them has this
-- number: no previous log is told by the number 0, so it is that of a `000000.log`, which LevelDB
-- never makes.
abbrev pub StaysUnread : List FolderFile → ℕ → BringFault → Type 0
StaysUnread files log fault =
    (n : ℕ) × (fault ≡ Folder (UnflushedLog n)) × IsFirstUnread log 0 files n

-- No number is left above the logs and the tables; or one is, and a log would still be read, or
-- what follows.
abbrev pub IsUnstanding : (ℕ → List ℕ → Type 0) → (Asked → ShelfFault → Type 0) → Type 0
    → List FolderFile → Form → List ℕ → List WriteBatch → BringFault → Type 0
IsUnstanding Into Denied Honest files shape numbers batches fault =
    ((e : ImportFault) × (fault ≡ Bring e) × IsNotStanding shape numbers e)
    ⊎ ((standing : Copied) × IsStanding shape numbers standing
    × (StaysUnread files standing.next fault
    ⊎ IsUnbrought Into Denied Honest batches standing fault))

-- What keeps the writes out: the tables are not listed; or they are, and what follows. Memory may
-- run out.
abbrev pub BringsNone : (ℕ → List ℕ → Type 0) → (Asked → ShelfFault → Type 0) → Type 0
    → List FolderFile → Form → List WriteBatch → Told → BringFault → Type 0
BringsNone Into Denied Honest files shape batches was fault =
    IsUnlisted Denied fault
    ⊎ ((logs : List ℕ) × (tables : List ℕ) × (mid : Told)
    × AreLogs shape.log shape.prev_log files logs × Becomes (listing tables was) mid
    × IsUnstanding Into Denied Honest files shape (logs ++ tables) batches fault)
