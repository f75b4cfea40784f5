-- What a command that only reads comes to, for the words of its command line: this project's rule.
-- It is about a folder that was opened at the path of these words, and about shelves on its place;
-- that such a shelf is the run's own is to be read.
use Rattle.std.specs.Prelude.{◌≡◌, ◌⊎◌, ℕ, IsTrue, List, MatchBool, Option}
use Rattle.std.specs.Io.KnownBytes.{Keeps}
use Rattle.lsm_folder.specs.Calls.{AreHonest}
use Rattle.lsm_folder.specs.declared.folder_calls.FolderCalls.{Ghosts}
use Rattle.lsm_folder.specs.declared.mark.Mark as mark
use Rattle.lsm_shelf.specs.Place.{Place}
use Rattle.lsm_shelf.specs.Refusals.{MayRefuse}
use Rattle.lsm_storage.specs.FileNames.{table_name}
use Rattle.lsm_storage.specs.declared.file.file_shelf.FileShelf.{FileShelf}
use Rattle.lsm_requests.specs.declared.directory_line.DirectoryLine.{DirectoryLine}
use Rattle.lsm_cmd_read.specs.Answers.{IsLookedInto, IsNotLookedInto, asked_by, moment}
use Rattle.lsm_cmd_read.specs.Directory.{AreGiven, OnlyReads}
use Rattle.lsm_cmd_read.specs.Quick.{FailsQuickly, LooksQuickly, is_quick}
use Rattle.lsm_cmd_read.specs.Seen.{FailsToSee, SeesAt, sees_more}
use Rattle.lsm_cmd_read.specs.declared.look_fault.LookFault.{LookFault}
use Rattle.lsm_cmd_read.specs.declared.look_fault.LookFault.TheVariants.{Directory}
use Rattle.lsm_directory.specs.Beside.{LooksBeside}
use Rattle.lsm_directory.specs.Folders.{IsShelfAt, stored_at, told_by}
use Rattle.lsm_directory.specs.Holding.{IsFolderFault}
use Rattle.lsm_directory.specs.declared.faults.directory_fault.DirectoryFault.{DirectoryFault}
use Rattle.lsm_directory.specs.declared.faults.directory_fault.DirectoryFault.TheVariants.{
  OutOfMemory,
}
use Rattle.lsm_directory.specs.declared.folder.beside.Beside.{Beside}

module _ {C M : Type 0} (folders : Ghosts C M) where
  -- The lock of the folder at the path was held, and this was found beside its tables. On a shelf
  -- of it, which was only read, the command was done.
  pub record LooksAt (line : DirectoryLine) (old new said_old said_new : Option (List ℕ))
      : Type 0 where
    pub beside : Beside
    pub begun : FileShelf C M
    pub on : IsShelfAt folders line.path.now (LooksBeside beside) begun
    pub ended : FileShelf C M
    pub done :
        IsLookedInto (asked_by line beside) (AreHonest folders.calls)
        (moment (told_by folders begun) old) (moment (told_by folders ended) new)
        said_old said_new
    pub reads : OnlyReads (told_by folders begun) (told_by folders ended)

module _ {C M : Type 0} (folders : Ghosts C M) (marks : mark.Ghosts M) where
  -- So it was, of a version whose tables the folder gave.
  pub record LooksAtGiven (line : DirectoryLine) (old new said_old said_new : Option (List ℕ))
      : Type 0 where
    pub looks : LooksAt folders line old new said_old said_new
    pub given : AreGiven (stored_at folders marks (told_by folders looks.begun).place)
        looks.done.version

  -- The lock of the folder at the path was held, and this was found beside its tables. On a shelf
  -- of it, which was only read, this fault was met: what that says of the folder, and what it
  -- leaves.
  pub record FailsAt (line : DirectoryLine) (fault : DirectoryFault) (old new : Option (List ℕ))
      : Type 0 where
    pub beside : Beside
    pub begun : FileShelf C M
    pub on : IsShelfAt folders line.path.now (LooksBeside beside) begun
    pub ended : FileShelf C M
    pub refused :
        IsNotLookedInto (asked_by line beside)
        (stored_at folders marks (told_by folders begun).place) MayRefuse
        (AreHonest folders.calls) fault (moment (told_by folders begun) old)
        (moment (told_by folders ended) new)
    pub reads : OnlyReads (told_by folders begun) (told_by folders ended)

  -- memory ran out, or the folder was not opened, locked or looked at, and nothing was written; or
  -- what follows
  abbrev pub FailsToLook : DirectoryLine → DirectoryFault → (old new : Option (List ℕ)) → Type 0
  FailsToLook line fault old new =
      ((IsFolderFault fault ⊎ (fault ≡ OutOfMemory)) × Keeps old new) ⊎ FailsAt line fault old new

-- ---- a quick line

-- `holds` says of a folder's place which bytes a file of a name holds there.
module _ {C M : Type 0} (folders : Ghosts C M) (marks : mark.Ghosts M)
    (holds : Place → (name image : List ℕ) → Type 0) where
  -- which images the folder of a place keeps under which numbers
  abbrev pub kept_at : Place → ℕ → List ℕ → Type 0
  kept_at place number image = holds place (table_name number) image

  -- The lock of the folder at the path was held, and this was found beside its tables. On a shelf
  -- of it, which was only read, the command was done; its tables were found, and not judged.
  pub record LooksQuicklyAt (line : DirectoryLine) (old new said_old said_new : Option (List ℕ))
      : Type 0 where
    pub beside : Beside
    pub begun : FileShelf C M
    pub on : IsShelfAt folders line.path.now (LooksBeside beside) begun
    pub ended : FileShelf C M
    pub done :
        LooksQuickly (asked_by line beside)
        (kept_at (told_by folders begun).place)
        (stored_at folders marks (told_by folders begun).place) (AreHonest folders.calls)
        (moment (told_by folders begun) old) (moment (told_by folders ended) new)
        said_old said_new
    pub reads : OnlyReads (told_by folders begun) (told_by folders ended)

  -- So with a fault that was met there.
  pub record FailsQuicklyAt (line : DirectoryLine) (fault : DirectoryFault)
      (old new : Option (List ℕ)) : Type 0 where
    pub beside : Beside
    pub begun : FileShelf C M
    pub on : IsShelfAt folders line.path.now (LooksBeside beside) begun
    pub ended : FileShelf C M
    pub refused :
        FailsQuickly (asked_by line beside)
        (kept_at (told_by folders begun).place)
        (stored_at folders marks (told_by folders begun).place) MayRefuse
        (AreHonest folders.calls) fault (moment (told_by folders begun) old)
        (moment (told_by folders ended) new)
    pub reads : OnlyReads (told_by folders begun) (told_by folders ended)

  -- ---- any line

  -- the command was done of the folder as it lies; where the line is quick, maybe without a
  -- judgment of the tables
  abbrev pub LooksAsItLies : DirectoryLine → (old new said_old said_new : Option (List ℕ)) → Type 0
  LooksAsItLies line old new said_old said_new =
      LooksAtGiven folders marks line old new said_old said_new
      ⊎ (IsTrue (is_quick line.command line.quick)
      × LooksQuicklyAt line old new said_old said_new)

  -- it was not
  abbrev pub FailsAsItLies : DirectoryLine → DirectoryFault → (old new : Option (List ℕ)) → Type 0
  FailsAsItLies line fault old new =
      FailsToLook folders marks line fault old new
      ⊎ (IsTrue (is_quick line.command line.quick) × FailsQuicklyAt line fault old new)

  -- the command was done of what the line sees: of logs and compressed tables too, or of the folder
  -- as it lies
  abbrev pub LooksAsAsked : DirectoryLine → (old new said_old said_new : Option (List ℕ)) → Type 0
  LooksAsAsked line old new said_old said_new =
      MatchBool (sees_more line) (SeesAt folders marks line old new said_old said_new)
      (LooksAsItLies line old new said_old said_new)

  -- it was not
  abbrev pub FailsAsAsked : DirectoryLine → LookFault → (old new : Option (List ℕ)) → Type 0
  FailsAsAsked line fault old new =
      MatchBool (sees_more line) (FailsToSee folders marks line fault old new)
      ((e : DirectoryFault) × (fault ≡ Directory e) × FailsAsItLies line e old new)
