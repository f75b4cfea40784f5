-- A copy of a database, and why there is none (this project's rule).
use Rattle.std.specs.Prelude.{◌≡◌, ◌⊎◌, ℕ, ◌+◌, List, [], ◌∷◌, ◌++◌, All, length}
use Rattle.std.specs.List.{sum_by}
use Rattle.lsm_codec.specs.Entries.{answer}
use Rattle.lsm_codec.specs.Keys.{UserKey}
use Rattle.lsm_shelf.specs.Asked.{Asked, Load}
use Rattle.lsm_shelf.specs.Told.{Told}
use Rattle.lsm_shelf.specs.declared.shelf_fault.ShelfFault.{ShelfFault}
use Rattle.lsm_manifest.specs.Shape.{Form, IsRefused, IsReplayed}
use Rattle.lsm_manifest.specs.WholeEdit.{files_from}
use Rattle.lsm_manifest.specs.declared.replay_fault.ReplayFault.{ReplayFault}
use Rattle.lsm_verify.specs.CheckRefusal.{IsOfShape, IsRefusal}
use Rattle.lsm_verify.specs.Counts.{count_of}
use Rattle.lsm_verify.specs.declared.check_fault.CheckFault.{CheckFault}
use Rattle.lsm_version.specs.Versions.{IsSound, Levels}
use Rattle.lsm_batch.specs.Batches.{entries_from}
use Rattle.lsm_wal.specs.declared.write_batch.WriteBatch.{WriteBatch}
use Rattle.lsm_import.specs.Answers.{NoneAbove, source_answer}
use Rattle.lsm_import.specs.Copied.{HasLogs, IsBegun, IsBeginRefusal, IsCopiedOf, IsLogsRefusal}
use Rattle.lsm_import.specs.Copied.{IsNotCopied, usual}
use Rattle.lsm_import.specs.declared.copied.Copied.{Copied}
use Rattle.lsm_import.specs.declared.import_fault.ImportFault.{ImportFault}
use Rattle.lsm_import.specs.declared.import_fault.ImportFault.TheVariants.{Replay}
use Rattle.lsm_cmd_import.specs.declared.copy_fault.CopyFault.{CopyFault}
use Rattle.lsm_cmd_import.specs.declared.copy_fault.CopyFault.TheVariants.{OutOfMemory, Tables}
use Rattle.lsm_cmd_import.specs.declared.copy_fault.CopyFault.TheVariants.{Copy}

-- The shelf gave the image of each table of the version, for that table's number. `Into` says which
-- images it gave for which numbers.
abbrev pub AreGiven : (ℕ → List ℕ → Type 0) → Levels → Type 0
AreGiven Into version = All (All (λ t. Into t.number t.image)) version.tables

-- The copied tables were read again from the shelf: they are a version, sound over an honest shelf,
-- which has so many entries.
pub record IsJudged (Into : ℕ → List ℕ → Type 0) (Honest : Type 0) (tables : Copied) (entries : ℕ)
    : Type 0 where
  pub shape : Form
  pub replayed : IsReplayed (tables.edit ∷ []) shape
  pub version : Levels
  pub of_shape : IsOfShape shape version
  pub given : AreGiven Into version
  pub sound : Honest → IsSound version
  pub counted : entries ≡ sum_by count_of version.tables

-- The copied tables were judged, and a table of the batches' last writes came behind them, if they
-- write anything. All have so many entries.
pub record IsFilled (Into : ℕ → List ℕ → Type 0) (Honest : Type 0) (batches : List WriteBatch)
    (tables : Copied) (entries : ℕ) (whole : Copied) : Type 0 where
  pub before : ℕ
  pub judged : IsJudged Into Honest tables before
  pub logs : HasLogs Into batches tables whole
  pub counted : entries ≡ before + length logs.batch

-- so it was with the copied tables: these tables are so many
pub record IsFinished (Into : ℕ → List ℕ → Type 0) (Honest : Type 0) (batches : List WriteBatch)
    (tables : Copied) (count entries : ℕ) (was is : Told) : Type 0 where
  pub whole : Copied
  pub filled : IsFilled Into Honest batches tables entries whole
  pub begun : IsBegun whole was is
  pub counted : count ≡ length whole.edit.added

-- A copy was made: a table for each of the shape, of just the entries of that, and one of the
-- batches' last writes. At its last sequence it answers of each key what the source does.
pub record IsMade (From Into : ℕ → List ℕ → Type 0) (Honest : Type 0) (shape : Form)
    (batches : List WriteBatch) (count entries : ℕ) (was is : Told) : Type 0 where
  pub tables : Copied
  pub copied : IsCopiedOf From Into shape tables
  pub finished : IsFinished Into Honest batches tables count entries was is
  pub answers : NoneAbove shape.last copied.entries → (key : UserKey)
      → answer (entries_from finished.filled.logs.first finished.filled.logs.batch
      ++ copied.entries) key finished.whole.last
      ≡ source_answer copied.entries shape.last batches key

-- ---- refusals

-- The tables were copied, and are no version: their edit comes to no shape, or it does, and its
-- tables are refused; or memory ran out.
abbrev pub IsUnjudged : (ℕ → List ℕ → Type 0) → (Asked → ShelfFault → Type 0) → Type 0 → Copied
    → CopyFault → Type 0
IsUnjudged Into Denied Honest tables fault =
    (fault ≡ OutOfMemory)
    ⊎ (((e : ReplayFault) × (fault ≡ Copy (Replay e)) × IsRefused (tables.edit ∷ []) e)
    ⊎ ((e : CheckFault) × (fault ≡ Tables e) × ((shape : Form)
    × IsReplayed (tables.edit ∷ []) shape
    × IsRefusal Into (λ number. Denied (Load number)) Honest shape e)))

-- the manifest is not begun
abbrev pub IsUnbegun : (Asked → ShelfFault → Type 0) → Copied → CopyFault → Type 0
IsUnbegun Denied whole fault =
    (e : ImportFault) × (fault ≡ Copy e) × IsBeginRefusal Denied whole e

-- What keeps a copy from being made whose tables were copied: its judgment, its logs' writes, or
-- its manifest.
abbrev pub IsUnmadeOf : (ℕ → List ℕ → Type 0) → (Asked → ShelfFault → Type 0) → Type 0
    → List WriteBatch → Copied → CopyFault → Type 0
IsUnmadeOf Into Denied Honest batches tables fault =
    IsUnjudged Into Denied Honest tables fault
    ⊎ (((e : ImportFault) × (fault ≡ Copy e) × IsLogsRefusal Denied usual batches tables e)
    ⊎ ((whole : Copied) × HasLogs Into batches tables whole
    × IsUnbegun Denied whole fault))

-- What keeps a copy from being made: a table that is not copied, or what follows. Memory may run
-- out.
abbrev pub IsUnmade : (From Into : ℕ → List ℕ → Type 0) → (Unheld Denied : Asked → ShelfFault
    → Type 0) → Type 0 → Form → List WriteBatch → CopyFault → Type 0
IsUnmade From Into Unheld Denied Honest shape batches fault =
    ((e : ImportFault) × (fault ≡ Copy e)
    × IsNotCopied From Into Unheld Denied usual (files_from 0 shape.levels) e)
    ⊎ ((tables : Copied) × IsCopiedOf From Into shape tables
    × IsUnmadeOf Into Denied Honest batches tables fault)
