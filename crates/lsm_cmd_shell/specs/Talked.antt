-- What a run of `shell` comes to, for the words of its command line: this project's rule. It is
-- about a folder that was opened at the path of these words, and about shelves on its place; that
-- such a shelf is the run's own is to be read.
use Rattle.std.specs.Prelude.{◌⊎◌, ℕ, Bool, true, false, List, Option, Ok}
use Rattle.std.specs.Io.KnownBytes.{Keeps}
use Rattle.lsm_folder.specs.Calls.{AreHonest}
use Rattle.lsm_folder.specs.declared.folder_calls.FolderCalls.{Ghosts}
use Rattle.lsm_folder.specs.declared.mark.Mark as mark
use Rattle.lsm_shelf.specs.Refusals.{MayRefuse}
use Rattle.lsm_storage.specs.declared.file.file_shelf.FileShelf.{FileShelf}
use Rattle.lsm_requests.specs.declared.ingest_options.IngestOptions.{IngestOptions}
use Rattle.lsm_text.specs.declared.form.Form.{Form}
use Rattle.lsm_directory.specs.Beside.{LooksBeside}
use Rattle.lsm_directory.specs.Folders.{IsShelfAt, stored_at, told_by}
use Rattle.lsm_directory.specs.declared.folder.beside.Beside.{Beside}
use Rattle.lsm_directory.specs.declared.folder.folder_file.FolderFile.{FolderFile}
use Rattle.lsm_opening.specs.Preparing.{IsPrepared}
use Rattle.lsm_opening.specs.Reading.{OnlyReads}
use Rattle.lsm_opening.specs.declared.prepared.Start.{Start}
use Rattle.lsm_cmd_shell.specs.Conversing.{IsConversed, IsUnconversed}
use Rattle.lsm_cmd_shell.specs.Reading.{ConversesToRead, IsReadingFault}
use Rattle.lsm_cmd_shell.specs.declared.shell_fault.ShellFault.{ShellFault}

module _ {C M : Type 0} (folders : Ghosts C M) where
  -- The lock of the folder at the path was held, and it was looked at. On a shelf of it a
  -- conversation went on, and ended well.
  pub record ConversesAt (path : List ℕ) (options : IngestOptions) (workers : Option ℕ)
      (bails : Bool) (input : Option (List ℕ)) (old new : Option (List ℕ)) : Type 0 where
    pub start : Start
    pub logs : List FolderFile
    pub begun : FileShelf C M
    pub on : IsShelfAt folders path (IsPrepared options start logs) begun
    pub ended : FileShelf C M
    pub done : IsConversed workers MayRefuse (AreHonest folders.calls) start logs options.form
        bails input (told_by folders begun) (told_by folders ended) old new

  -- The lock was held as by others who read, and this was found beside its tables. On a shelf of
  -- it, which was only read, a conversation went on, and ended well.
  pub record ReadsAt (path : List ℕ) (form : Form) (bails : Bool) (input : Option (List ℕ))
      (old new : Option (List ℕ)) : Type 0 where
    pub beside : Beside
    pub begun : FileShelf C M
    pub on : IsShelfAt folders path (LooksBeside beside) begun
    pub ended : FileShelf C M
    pub done : ConversesToRead (AreHonest folders.calls) form bails input (Ok tt)
        (told_by folders begun) (told_by folders ended) old new
    pub reads : OnlyReads (told_by folders begun) (told_by folders ended)

  -- the one where the folder is only read, and else the other
  abbrev pub TalksAt : List ℕ → IngestOptions → (workers : Option ℕ) → (bails reads_only : Bool)
      → (input : Option (List ℕ)) → (old new : Option (List ℕ)) → Type 0
  TalksAt path options workers bails true input old new =
      ReadsAt path options.form bails input old new
  TalksAt path options workers bails false input old new =
      ConversesAt path options workers bails input old new

module _ {C M : Type 0} (folders : Ghosts C M) (marks : mark.Ghosts M) where
  -- The lock of the folder at the path was held, and it was looked at. On a shelf of it this fault
  -- kept a conversation from such an end.
  pub record StopsAt (path : List ℕ) (options : IngestOptions) (workers : Option ℕ) (bails : Bool)
      (input : Option (List ℕ)) (fault : ShellFault) (old new : Option (List ℕ)) : Type 0 where
    pub start : Start
    pub logs : List FolderFile
    pub begun : FileShelf C M
    pub on : IsShelfAt folders path (IsPrepared options start logs) begun
    pub ended : FileShelf C M
    pub refused :
        IsUnconversed workers (stored_at folders marks (told_by folders begun).place) MayRefuse
        (AreHonest folders.calls) start logs options.form bails input fault
        (told_by folders begun) (told_by folders ended) old new

  -- The lock was held as by others who read. On a shelf of it, which was only read, this fault kept
  -- one from such an end.
  pub record StopsReadingAt (path : List ℕ) (form : Form) (bails : Bool)
      (input : Option (List ℕ)) (fault : ShellFault) (old new : Option (List ℕ)) : Type 0 where
    pub beside : Beside
    pub begun : FileShelf C M
    pub on : IsShelfAt folders path (LooksBeside beside) begun
    pub ended : FileShelf C M
    pub refused :
        IsReadingFault (stored_at folders marks (told_by folders begun).place) MayRefuse
        (AreHonest folders.calls) form bails input fault (told_by folders begun)
        (told_by folders ended) old new
    pub reads : OnlyReads (told_by folders begun) (told_by folders ended)

  -- nothing was written; or a fault was met so
  abbrev pub FailsToConverse : List ℕ → IngestOptions → (workers : Option ℕ) → (bails : Bool)
      → (input : Option (List ℕ)) → (old new : Option (List ℕ)) → Type 0
  FailsToConverse path options workers bails input old new =
      Keeps old new
      ⊎ ((fault : ShellFault) × StopsAt path options workers bails input fault old new)

  abbrev pub FailsToRead : List ℕ → Form → (bails : Bool) → (input : Option (List ℕ))
      → (old new : Option (List ℕ)) → Type 0
  FailsToRead path form bails input old new =
      Keeps old new
      ⊎ ((fault : ShellFault) × StopsReadingAt path form bails input fault old new)

  -- the one where the folder is only read, and else the other
  abbrev pub FailsToTalk : List ℕ → IngestOptions → (workers : Option ℕ)
      → (bails reads_only : Bool) → (input : Option (List ℕ)) → (old new : Option (List ℕ))
      → Type 0
  FailsToTalk path options workers bails true input old new =
      FailsToRead path options.form bails input old new
  FailsToTalk path options workers bails false input old new =
      FailsToConverse path options workers bails input old new
