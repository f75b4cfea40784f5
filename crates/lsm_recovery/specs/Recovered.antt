-- What comes of the logs of a folder: this project's rule.
use Rattle.std.specs.Prelude.{◌≡◌, ◌⊎◌, ℕ, ◌<◌, Bool, false, List, Option}
use Rattle.lsm_folder.specs.Calls.{AreHonest, Call}
use Rattle.lsm_folder.specs.declared.folder_calls.FolderCalls.{Ghosts}
use Rattle.lsm_folder.specs.declared.mark.Mark as mark
use Rattle.lsm_shelf.specs.Asked.{Asked}
use Rattle.lsm_shelf.specs.Refusals.{MayRefuse}
use Rattle.lsm_shelf.specs.Told.{Told, fresh}
use Rattle.lsm_shelf.specs.declared.shelf_fault.ShelfFault.{ShelfFault}
use Rattle.lsm_storage.specs.declared.file.file_shelf.FileShelf.{FileShelf}
use Rattle.lsm_manifest.specs.Shape.{Form}
use Rattle.lsm_directory.specs.Folders.{stored_at, told_by}
use Rattle.lsm_directory.specs.declared.folder.folder_file.FolderFile.{FolderFile}
use Rattle.lsm_opening.specs.Tidying.{OnlyReads}
use Rattle.lsm_wal.specs.declared.write_batch.WriteBatch.{WriteBatch}
use Rattle.lsm_import.specs.Copies.{OnlyPuts}
use Rattle.lsm_log_files.specs.Stops.{IsNoSourceTo, IsSourceTo}
use Rattle.lsm_log_files.specs.declared.log_stop.LogStop.{LogStop}
use Rattle.lsm_log_files.specs.declared.source_fault.SourceFault.{SourceFault}
use Rattle.lsm_recovery.specs.Bringing.{BringsIn, BringsNone}
use Rattle.lsm_recovery.specs.declared.bring_fault.BringFault.{BringFault}
use Rattle.lsm_recovery.specs.declared.bring_fault.BringFault.TheVariants.{OutOfMemory, Read}
use Rattle.lsm_recovery.specs.declared.brought.Brought.{Brought}

-- ---- on a shelf

-- what a run knows of its folder before it, or behind it: which calls it noted, and what the shelf
-- on it was told
pub record Moment : Type 0 where
  pub calls : List Call
  pub told : Told

abbrev pub moment_of : List Call → Told → Moment
moment_of calls told = record { calls = calls; told = told }

-- No log was to be read, and nothing more was told; or the writes of the logs came in.
abbrev pub Brings : (ℕ → List ℕ → Type 0) → Type 0 → List FolderFile → Form → List WriteBatch
    → Brought → Told → Told → Type 0
Brings Into Honest files shape batches brought was is =
    ((brought.logs ≡ 0) × (brought.entries ≡ 0) × (is ≡ was))
    ⊎ ((0 < brought.logs) × BringsIn Into Honest files shape batches brought.entries was is)

-- The manifest and just the logs that LevelDB reads were read, whole or to the first fault, and the
-- writes of these came in.
pub record IsRecovered (to_first_fault : Bool) (Into : ℕ → List ℕ → Type 0) (Honest : Type 0)
    (files : List FolderFile) (brought : Brought) (before later : Moment) : Type 0 where
  pub shape : Form
  pub batches : List WriteBatch
  pub mid : Told
  pub source : IsSourceTo to_first_fault brought.stop files shape batches brought.logs brought.rest
      before.calls later.calls before.told mid
  pub brings : Brings Into Honest files shape batches brought mid later.told
  pub reads : OnlyReads before.calls later.calls

-- Memory ran out; or they were not read; or they were, and the writes did not come in.
abbrev pub IsKeptOut : Bool → (ℕ → List ℕ → Type 0) → (Asked → ShelfFault → Type 0) → Type 0
    → List FolderFile → BringFault → Moment → Moment → Type 0
IsKeptOut to_first_fault Into Denied Honest files fault before later =
    (fault ≡ OutOfMemory)
    ⊎ (((e : SourceFault) × (fault ≡ Read e)
    × IsNoSourceTo to_first_fault Denied files e before.calls later.calls before.told later.told)
    ⊎ ((shape : Form) × (batches : List WriteBatch) × (count : ℕ) × (rest : ℕ)
    × (stop : Option LogStop) × (mid : Told)
    × IsSourceTo to_first_fault stop files shape batches count rest before.calls later.calls
    before.told mid
    × BringsNone Into Denied Honest files shape batches mid fault))

-- Why the writes did not come in. The shelf got tables at most, and began no manifest: no call that
-- it answered with Ok changed the database, and the logs are still to be read.
pub record IsUnrecovered (to_first_fault : Bool) (Into : ℕ → List ℕ → Type 0)
    (Denied : Asked → ShelfFault → Type 0) (Honest : Type 0) (files : List FolderFile)
    (fault : BringFault) (before later : Moment) : Type 0 where
  pub why : IsKeptOut to_first_fault Into Denied Honest files fault before later
  pub puts : OnlyPuts before.told later.told
  pub reads : OnlyReads before.calls later.calls

-- ---- on a folder

module _ {C M : Type 0} (folders : Ghosts C M) where
  -- what is known of it
  abbrev pub moment : C → FileShelf C M → Moment
  moment folder shelf = moment_of (folders.calls folder) (told_by folders shelf)

module _ {C M : Type 0} (folders : Ghosts C M) (marks : mark.Ghosts M) where
  -- The logs among these files of the folder came into its database, whole or to the first fault,
  -- by a new shelf on it.
  pub record RecoversBy (to_first_fault : Bool) (files : List FolderFile) (old new : C)
      (brought : Brought) : Type 0 where
    pub begun : FileShelf C M
    pub fresh_shelf : told_by folders begun ≡ fresh (folders.place old)
    pub ended : FileShelf C M
    pub done :
        IsRecovered to_first_fault (stored_at folders marks (told_by folders begun).place)
        (AreHonest folders.calls) files brought (moment folders old begun)
        (moment folders new ended)

  -- They did not: what the fault says, and what is left.
  pub record FailsBy (to_first_fault : Bool) (files : List FolderFile) (old new : C)
      (fault : BringFault) : Type 0 where
    pub begun : FileShelf C M
    pub fresh_shelf : told_by folders begun ≡ fresh (folders.place old)
    pub ended : FileShelf C M
    pub refused :
        IsUnrecovered to_first_fault (stored_at folders marks (told_by folders begun).place)
        MayRefuse (AreHonest folders.calls) files fault (moment folders old begun)
        (moment folders new ended)

  -- so it was; or there was no memory for the shelf, and the folder was asked for nothing
  abbrev pub FailsTo : Bool → List FolderFile → (old new : C) → BringFault → Type 0
  FailsTo to_first_fault files old new fault =
      ((fault ≡ OutOfMemory) × (new ≡ old)) ⊎ FailsBy to_first_fault files old new fault

  -- ---- of whole logs alone

  abbrev pub RecoversOn : List FolderFile → (old new : C) → Brought → Type 0
  RecoversOn = RecoversBy false

  abbrev pub FailsOn : List FolderFile → (old new : C) → BringFault → Type 0
  FailsOn = FailsTo false
