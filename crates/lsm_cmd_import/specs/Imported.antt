-- What an `import` comes to, for the words of its command line: this project's rule. It is about
-- folders that were opened at the paths of these words, and about shelves on their places; that
-- these are the run's own is to be read.
use Rattle.std.specs.Prelude.{◌≡◌, ◌⊎◌, ℕ, Bool, List, [], ◌∷◌, ◌++◌, Option, codes, decimal}
use Rattle.std.specs.Io.KnownBytes.{Appends, Keeps}
use Rattle.lsm_folder.specs.Calls.{AreHonest, Call}
use Rattle.lsm_folder.specs.declared.folder_calls.FolderCalls.{Ghosts}
use Rattle.lsm_folder.specs.declared.mark.Mark as mark
use Rattle.lsm_shelf.specs.Asked.{Asked}
use Rattle.lsm_shelf.specs.Refusals.{MayRefuse}
use Rattle.lsm_shelf.specs.Told.{Told, fresh}
use Rattle.lsm_shelf.specs.declared.shelf_fault.ShelfFault.{ShelfFault}
use Rattle.lsm_storage.specs.declared.file.file_shelf.FileShelf.{FileShelf}
use Rattle.lsm_manifest.specs.Shape.{Form}
use Rattle.lsm_requests.specs.declared.import_line.ImportLine.{ImportLine}
use Rattle.lsm_directory.specs.Folders.{IsFolderAt, IsShelfAt, stored_at, told_by}
use Rattle.lsm_directory.specs.Holding.{IsFolderFault}
use Rattle.lsm_directory.specs.Logs.{IsFirstUnread, NoneUnread}
use Rattle.lsm_directory.specs.Looking.{TellsBeside}
use Rattle.lsm_directory.specs.declared.faults.directory_fault.DirectoryFault.{DirectoryFault}
use Rattle.lsm_directory.specs.declared.folder.folder_file.FolderFile.{FolderFile}
use Rattle.lsm_opening.specs.Preparing.{IsPrepared, IsUnprepared, plainly}
use Rattle.lsm_opening.specs.Tidying.{OnlyReads}
use Rattle.lsm_opening.specs.declared.prepared.Start.{Start}
use Rattle.lsm_opening.specs.declared.prepared.Start.TheVariants.{Open, Begin}
use Rattle.lsm_opening.specs.declared.faults.writer_fault.WriterFault.{WriterFault}
use Rattle.lsm_opening.specs.declared.faults.writer_fault.WriterFault.TheVariants.{Directory}
use Rattle.lsm_opening.specs.declared.faults.writer_fault.WriterFault.TheVariants.{UnflushedLog}
use Rattle.lsm_wal.specs.declared.write_batch.WriteBatch.{WriteBatch}
use Rattle.lsm_import.specs.Copies.{OnlyPuts}
use Rattle.lsm_log_files.specs.Source.{ReadsManifest}
use Rattle.lsm_log_files.specs.Stops.{IsNoSourceTo, IsSourceTo, left_text}
use Rattle.lsm_log_files.specs.declared.log_stop.LogStop.{LogStop}
use Rattle.lsm_log_files.specs.declared.source_fault.SourceFault.{SourceFault}
use Rattle.lsm_cmd_import.specs.Copying.{IsMade, IsUnmade}
use Rattle.lsm_cmd_import.specs.declared.copy_fault.CopyFault.{CopyFault}
use Rattle.lsm_cmd_import.specs.declared.copy_fault.CopyFault.TheVariants.{OutOfMemory, Source}
use Rattle.lsm_cmd_import.specs.declared.copy_fault.CopyFault.TheVariants.{Target, IsThere}
use Rattle.lsm_cmd_import.specs.declared.copy_fault.CopyFault.TheVariants.{Read}
use Rattle.lsm_cmd_import.specs.declared.copy_fault.CopyFault.TheVariants.{Write as WriteFault}
use Rattle.lsm_cmd_import.specs.declared.reply.CopyMade.{CopyMade}

-- `tables T logs L entries E rest B`
abbrev pub made_text : CopyMade → List ℕ
made_text m = codes "tables "
    ++ (decimal m.tables ++ (codes " logs " ++ (decimal m.logs ++ (codes " entries "
    ++ (decimal m.entries ++ (codes " rest " ++ (decimal m.rest ++ (10 ∷ []))))))))

-- ---- on shelves

-- what a run knows of its folders before it, or behind it: which calls the source's folder noted,
-- and what the shelves on the source and on the target were told
pub record Moment : Type 0 where
  pub calls : List Call
  pub source : Told
  pub target : Told

abbrev pub moment_of : List Call → (source target : Told) → Moment
moment_of calls source target = record { calls = calls; source = source; target = target }

-- The source was only read.
pub record LeavesSource (before later : Moment) : Type 0 where
  pub folder : OnlyReads before.calls later.calls
  pub shelf : ReadsManifest before.source later.source

-- The source's manifest, logs and tables were read, the logs whole or to the first fault, and just
-- their copy was made.
pub record IsImported (to_first_fault : Bool) (From Into : ℕ → List ℕ → Type 0) (Honest : Type 0)
    (files : List FolderFile) (made : CopyMade) (before later : Moment) : Type 0 where
  pub shape : Form
  pub batches : List WriteBatch
  pub source : IsSourceTo to_first_fault made.stop files shape batches made.logs made.rest
      before.calls later.calls before.source later.source
  pub copy : IsMade From Into Honest shape batches made.tables made.entries before.target
      later.target
  pub left : LeavesSource before later

-- Memory ran out; or the source was not read; or it was, and its copy was not made.
abbrev pub IsUncopied : Bool → (From Into : ℕ → List ℕ → Type 0)
    → (Unheld Denied : Asked → ShelfFault → Type 0) → Type 0 → List FolderFile → CopyFault → Moment
    → Moment → Type 0
IsUncopied to_first_fault From Into Unheld Denied Honest files fault before later =
    (fault ≡ OutOfMemory)
    ⊎ (((e : SourceFault) × (fault ≡ Read e)
    × IsNoSourceTo to_first_fault Unheld files e before.calls later.calls before.source
    later.source)
    ⊎ ((shape : Form) × (batches : List WriteBatch) × (count : ℕ) × (rest : ℕ)
    × (stop : Option LogStop)
    × IsSourceTo to_first_fault stop files shape batches count rest before.calls later.calls
    before.source later.source
    × IsUnmade From Into Unheld Denied Honest shape batches fault))

-- Why there is no copy. The target got tables at most, and no manifest of it was begun.
pub record IsUnimported (to_first_fault : Bool) (From Into : ℕ → List ℕ → Type 0)
    (Unheld Denied : Asked → ShelfFault → Type 0) (Honest : Type 0) (files : List FolderFile)
    (fault : CopyFault) (before later : Moment) : Type 0 where
  pub why : IsUncopied to_first_fault From Into Unheld Denied Honest files fault before later
  pub puts : OnlyPuts before.target later.target
  pub left : LeavesSource before later

-- ---- on folders

-- These names lead to a new database, and each of the logs is empty.
abbrev pub IsUntaken : Start → List FolderFile → Type 0
IsUntaken start logs = ((number : ℕ) × (start ≡ Begin number)) × NoneUnread 0 0 logs

-- They lead to one that is there, or to a new one beside a log that LevelDB would read.
abbrev pub TakenBy : Start → List FolderFile → CopyFault → Type 0
TakenBy start logs fault =
    ((fault ≡ IsThere) × (start ≡ Open))
    ⊎ ((n : ℕ) × (fault ≡ Target (UnflushedLog n)) × ((number : ℕ) × (start ≡ Begin number))
    × IsFirstUnread 0 0 logs n)

module _ {C M : Type 0} (folders : Ghosts C M) where
  -- what is known of these
  abbrev pub moment : C → (source target : FileShelf C M) → Moment
  moment folder source target =
      moment_of (folders.calls folder) (told_by folders source) (told_by folders target)

  -- The lock of the folder at this path was held alone; no database was there, nor a log but empty
  -- ones.
  abbrev pub IsReadyTarget : List ℕ → FileShelf C M → Type 0
  IsReadyTarget path target = (start : Start) × (logs : List FolderFile)
      × IsShelfAt folders path (IsPrepared plainly start logs) target × IsUntaken start logs

  -- The lock of the folder at the first path was held, shared, and these files were found beside
  -- its tables. The one at the second path is ready. A shelf is on each.
  pub record AreReady (line : ImportLine) (files : List FolderFile) (folder : C)
      (source target : FileShelf C M) : Type 0 where
    pub opened : IsFolderAt folders line.source.now (TellsBeside files) folder
    pub reading : told_by folders source ≡ fresh (folders.place folder)
    pub target_ready : IsReadyTarget line.target.now target

  -- In the folder at this path there can be no copy: it was not opened, or not locked and looked
  -- at; or it is taken.
  abbrev pub IsNoTarget : List ℕ → CopyFault → Type 0
  IsNoTarget path fault =
      ((e : DirectoryFault) × (fault ≡ Target (Directory e)) × IsFolderFault e)
      ⊎ (((e : WriterFault) × (fault ≡ Target e)
      × ((folder : C) × IsFolderAt folders path (IsUnprepared plainly e) folder))
      ⊎ ((start : Start) × (logs : List FolderFile)
      × ((folder : C) × IsFolderAt folders path (IsPrepared plainly start logs) folder)
      × TakenBy start logs fault))

  -- In the folder at the second path there can be no copy, and the one at the first path was opened
  -- before.
  abbrev pub HasNoTarget : ImportLine → CopyFault → Type 0
  HasNoTarget line fault = (files : List FolderFile) × (folder : C)
      × IsFolderAt folders line.source.now (TellsBeside files) folder
      × IsNoTarget line.target.now fault

  -- memory ran out, or the folders were not both opened: the source's is the first
  abbrev pub AreUnready : ImportLine → CopyFault → Type 0
  AreUnready line fault =
      (fault ≡ OutOfMemory)
      ⊎ (((e : DirectoryFault) × (fault ≡ Source e) × IsFolderFault e)
      ⊎ HasNoTarget line fault)

module _ {C M : Type 0} (folders : Ghosts C M) (marks : mark.Ghosts M) (to_first_fault : Bool) where
  -- The database in the folder at the one path was copied to the folder at the other.
  pub record ImportsTo (line : ImportLine) (made : CopyMade) : Type 0 where
    pub files : List FolderFile
    pub folder : C
    pub source : FileShelf C M
    pub target : FileShelf C M
    pub ready : AreReady folders line files folder source target
    pub left_folder : C
    pub left_source : FileShelf C M
    pub left_target : FileShelf C M
    pub done :
        IsImported to_first_fault (stored_at folders marks (told_by folders source).place)
        (stored_at folders marks (told_by folders target).place) (AreHonest folders.calls) files
        made (moment folders folder source target)
        (moment folders left_folder left_source left_target)

  -- So it was; what was left out was told on standard error, and the line of it was written.
  abbrev pub ImportsAt : ImportLine → (old new said_old said_new : Option (List ℕ)) → Type 0
  ImportsAt line old new said_old said_new = (made : CopyMade) × ImportsTo line made
      × Appends said_old said_new (left_text made.stop) × Appends old new (made_text made)

  -- It was not: what the fault says, and what is left.
  pub record FailsAt (line : ImportLine) (fault : CopyFault) : Type 0 where
    pub files : List FolderFile
    pub folder : C
    pub source : FileShelf C M
    pub target : FileShelf C M
    pub ready : AreReady folders line files folder source target
    pub left_folder : C
    pub left_source : FileShelf C M
    pub left_target : FileShelf C M
    pub refused :
        IsUnimported to_first_fault (stored_at folders marks (told_by folders source).place)
        (stored_at folders marks (told_by folders target).place) MayRefuse MayRefuse
        (AreHonest folders.calls) files fault (moment folders folder source target)
        (moment folders left_folder left_source left_target)

  -- The folders were not opened, or the copy was not made, and nothing was written; or it was made,
  -- and its line not written.
  abbrev pub FailsToImport : ImportLine → CopyFault → (old new : Option (List ℕ)) → Type 0
  FailsToImport line fault old new =
      (Keeps old new × (AreUnready folders line fault ⊎ FailsAt line fault))
      ⊎ ((fault ≡ WriteFault) × ((made : CopyMade) × ImportsTo line made))
