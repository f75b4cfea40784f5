-- What an `ingest` comes to, for the words of its command line: this project's rule. It is about a
-- folder that was opened at the path of these words, and about shelves on its place; that such a
-- shelf is the run's own is to be read.
use Rattle.std.specs.Prelude.{◌≢◌, ◌⊎◌, ℕ, List, Option, IfSome}
use Rattle.std.specs.Io.KnownBytes.{Keeps}
use Rattle.lsm_batch.specs.declared.write.Write.{Write}
use Rattle.lsm_folder.specs.Calls.{AreHonest}
use Rattle.lsm_folder.specs.declared.folder_calls.FolderCalls.{Ghosts}
use Rattle.lsm_folder.specs.declared.mark.Mark as mark
use Rattle.lsm_shelf.specs.Place.{Place}
use Rattle.lsm_shelf.specs.Refusals.{MayRefuse}
use Rattle.lsm_storage.specs.FileNames.{table_name}
use Rattle.lsm_storage.specs.declared.file.file_shelf.FileShelf.{FileShelf}
use Rattle.lsm_text.specs.BatchText.{IsBatchText}
use Rattle.lsm_requests.specs.declared.ingest_options.IngestOptions.{IngestOptions}
use Rattle.lsm_directory.specs.Folders.{IsShelfAt, stored_at, told_by}
use Rattle.lsm_cmd_write.specs.Ingesting.{BringsIn, KeepsOut}
use Rattle.lsm_opening.specs.Preparing.{IsPrepared}
use Rattle.lsm_opening.specs.declared.faults.writer_fault.WriterFault.{WriterFault}
use Rattle.lsm_opening.specs.declared.faults.writer_fault.WriterFault.TheVariants.{Write as WriteFault}
use Rattle.lsm_directory.specs.declared.folder.folder_file.FolderFile.{FolderFile}
use Rattle.lsm_opening.specs.declared.prepared.Start.{Start}

-- `holds` says of a folder's place which bytes a file of a name holds there: so which images the
-- folder of a place keeps under which numbers.
abbrev pub kept_at : (Place → (name image : List ℕ) → Type 0) → Place → ℕ → List ℕ → Type 0
kept_at holds place number image = holds place (table_name number) image

module _ {C M : Type 0} (folders : Ghosts C M)
    (holds : Place → (name image : List ℕ) → Type 0) where
  -- The lock of the folder at the path was held, and it was looked at. On a shelf of it the batch
  -- came in, and the reply was written.
  pub record ComesInAt (path : List ℕ) (options : IngestOptions) (ws : List Write)
      (old new : Option (List ℕ)) : Type 0 where
    pub start : Start
    pub logs : List FolderFile
    pub begun : FileShelf C M
    pub on : IsShelfAt folders path (IsPrepared options start logs) begun
    pub ended : FileShelf C M
    pub done : BringsIn start options.quick (kept_at holds (told_by folders begun).place)
        (AreHonest folders.calls) logs ws (told_by folders begun) (told_by folders ended) old new

  -- The text spells a batch, which came in there.
  abbrev pub IsIngested : List ℕ → IngestOptions → (text : Option (List ℕ))
      → (old new : Option (List ℕ)) → Type 0
  IsIngested path options text old new =
      (ws : List Write) × IfSome text (λ t. IsBatchText options.form t ws)
      × ComesInAt path options ws old new

module _ {C M : Type 0} (folders : Ghosts C M) (marks : mark.Ghosts M)
    (holds : Place → (name image : List ℕ) → Type 0) where
  -- The lock of the folder at the path was held, and it was looked at. On a shelf of it this fault
  -- kept the batch out, or its reply from being written.
  pub record StaysOutAt (path : List ℕ) (options : IngestOptions) (ws : List Write)
      (fault : WriterFault) (old new : Option (List ℕ)) : Type 0 where
    pub start : Start
    pub logs : List FolderFile
    pub begun : FileShelf C M
    pub on : IsShelfAt folders path (IsPrepared options start logs) begun
    pub ended : FileShelf C M
    pub says : KeepsOut start options.quick (kept_at holds (told_by folders begun).place)
        (stored_at folders marks (told_by folders begun).place) MayRefuse
        (AreHonest folders.calls) logs ws fault (told_by folders begun) (told_by folders ended)
    pub left : fault ≢ WriteFault → Keeps old new

  -- nothing was written; or a fault was met so
  abbrev pub FailsToBringIn : List ℕ → IngestOptions → List Write → (old new : Option (List ℕ))
      → Type 0
  FailsToBringIn path options ws old new =
      Keeps old new ⊎ ((fault : WriterFault) × StaysOutAt path options ws fault old new)

  -- Nothing was written; or the text spells a batch, and for it a fault was met so.
  abbrev pub IsUningested : List ℕ → IngestOptions → (text : Option (List ℕ))
      → (old new : Option (List ℕ)) → Type 0
  IsUningested path options text old new =
      Keeps old new ⊎ ((ws : List Write) × IfSome text (λ t. IsBatchText options.form t ws)
      × FailsToBringIn path options ws old new)
