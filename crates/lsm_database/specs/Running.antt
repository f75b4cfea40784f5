-- What the run of a program on a database is, and why there is none (this project's rule).
use Rattle.std.specs.Prelude.{◌≡◌, ◌⊎◌, ℕ, ◌+◌, List, All}
use Rattle.lsm_batch.specs.declared.write.Write.{Write}
use Rattle.lsm_codec.specs.Entries.{Entry}
use Rattle.lsm_folder.specs.Calls.{AreHonest}
use Rattle.lsm_folder.specs.declared.folder_calls.FolderCalls.{Ghosts}
use Rattle.lsm_folder.specs.declared.mark.Mark as mark
use Rattle.lsm_shelf.specs.Asked.{Asked}
use Rattle.lsm_shelf.specs.Refusals.{MayRefuse}
use Rattle.lsm_shelf.specs.Told.{GivesForks, NotNamed, RefusesFork, Told, forks_behind}
use Rattle.lsm_shelf.specs.declared.shelf_fault.ShelfFault.{ShelfFault}
use Rattle.lsm_storage.specs.declared.file.file_shelf.FileShelf.{FileShelf}
use Rattle.lsm_directory.specs.Folders.{IsFolderAt, IsShelfAt, stored_at, told_by}
use Rattle.lsm_directory.specs.Holding.{IsFolderFault}
use Rattle.lsm_directory.specs.declared.faults.directory_fault.DirectoryFault.{DirectoryFault}
use Rattle.lsm_directory.specs.declared.folder.folder_file.FolderFile.{FolderFile}
use Rattle.lsm_state.specs.Held.{Held}
use Rattle.lsm_store.specs.Workers.{IsWorkersEnd}
use Rattle.lsm_store.specs.Working.{HaveEndedBeside}
use Rattle.lsm_store.specs.declared.worker_end.WorkerEnd.{WorkerEnd}
use Rattle.lsm_opening.specs.Preparing.{IsPrepared, IsUnprepared, plainly}
use Rattle.lsm_opening.specs.Starting.{IsStarted, IsStartRefusal}
use Rattle.lsm_opening.specs.WriterFault.{of_shelf}
use Rattle.lsm_opening.specs.declared.prepared.Start.{Start}
use Rattle.lsm_opening.specs.declared.faults.writer_fault.WriterFault.{WriterFault}
use Rattle.lsm_opening.specs.declared.faults.writer_fault.WriterFault.TheVariants.{Directory}
use Rattle.lsm_opening.specs.declared.faults.writer_fault.WriterFault.TheVariants.{OutOfMemory}
use Rattle.lsm_database.specs.Keeping.{HasComeTo, HasSaid}

-- ---- on a shelf

-- The database was begun or opened, and a program answered, which may ask for such batches; this is
-- what it says, of all that had come in before, and of all that it knew in the end. Once the
-- database was begun or opened its shelf gave just a fork for each worker, and two for the program.
-- Workers ended so, as they may over the first of these forks, and the one that only gathered over
-- one of the last worker's: in states that came from the one begun or opened by steps of workers
-- and by such batches.
pub record Runs (Refused : Asked → ShelfFault → Type 0) (Honest : Type 0) (start : Start)
    (logs : List FolderFile) (workers : ℕ) (Asks : List Entry → List Write
    → Type 0) (Says : (before after : List Entry) → Type 0) (ends : List WorkerEnd) (was is : Told)
    : Type 0 where
  pub state : Held
  pub mid : Told
  pub started : IsStarted Honest start logs state was mid
  pub forked : GivesForks (workers + 2) mid is
  pub said : HasSaid (Asks state.history) state (Says state.history)
  pub each : All (IsWorkersEnd Honest) ends
  pub worked : HaveEndedBeside Honest Refused
      (HasComeTo Refused Honest (Asks state.history) state)
      (forks_behind was.place mid.forks workers) ends

-- So many forks were given, and memory ran out or there was no thread; or one was refused.
abbrev pub IsUnforked : (count : ℕ) → WriterFault → Told → Told → Type 0
IsUnforked count e was is =
    ((e ≡ OutOfMemory) × GivesForks count was is)
    ⊎ ((fault : ShelfFault) × (e ≡ of_shelf fault) × NotNamed fault
    × RefusesFork count fault was is)

-- Why no program ran: the database was not begun or opened; or it was, and then there was no fork
-- or no worker.
abbrev pub IsRunRefusal : (ℕ → List ℕ → Type 0) → (Asked → ShelfFault → Type 0) → Type 0 → Start
    → List FolderFile → (workers : ℕ) → WriterFault → Told → Told → Type 0
IsRunRefusal Stored Refused Honest start logs workers e was is =
    IsStartRefusal Stored Refused Honest start logs e was is
    ⊎ ((state : Held) × (mid : Told) × IsStarted Honest start logs state was mid
    × IsUnforked (workers + 2) e mid is)

-- ---- in a folder

module _ {C M : Type 0} (folders : Ghosts C M) where
  -- The lock of the folder at this path was held, and it was looked at. On a shelf of it the
  -- database was begun or opened, and a program ran beside two workers.
  pub record RunsAt (path : List ℕ) (Asks : List Entry → List Write → Type 0)
      (Says : (before after : List Entry) → Type 0) (ends : List WorkerEnd) : Type 0 where
    pub start : Start
    pub logs : List FolderFile
    pub begun : FileShelf C M
    pub on : IsShelfAt folders path (IsPrepared plainly start logs) begun
    pub ended : FileShelf C M
    pub ran : Runs MayRefuse (AreHonest folders.calls) start logs 2 Asks Says ends
        (told_by folders begun) (told_by folders ended)

  -- Memory ran out, or no folder was opened at the path; or its lock was not held, or the looking
  -- stopped.
  abbrev pub IsUnpreparedAt : List ℕ → WriterFault → Type 0
  IsUnpreparedAt path e = (e ≡ OutOfMemory)
      ⊎ (((fault : DirectoryFault) × (e ≡ Directory fault) × IsFolderFault fault)
      ⊎ ((folder : C) × IsFolderAt folders path (IsUnprepared plainly e) folder))

module _ {C M : Type 0} (folders : Ghosts C M) (marks : mark.Ghosts M) where
  -- The folder was looked at, and no program ran on a shelf of it.
  pub record IsUnrunAt (path : List ℕ) (e : WriterFault) : Type 0 where
    pub start : Start
    pub logs : List FolderFile
    pub begun : FileShelf C M
    pub on : IsShelfAt folders path (IsPrepared plainly start logs) begun
    pub ended : FileShelf C M
    pub refused : IsRunRefusal (stored_at folders marks (told_by folders begun).place) MayRefuse
        (AreHonest folders.calls) start logs 2 e (told_by folders begun) (told_by folders ended)

  -- why no program ran in the folder at a path
  abbrev pub IsUnopened : List ℕ → WriterFault → Type 0
  IsUnopened path e = IsUnpreparedAt folders path e ⊎ IsUnrunAt path e
