-- What comes before a database is begun or opened: its folder is locked, looked at, and tidied
-- (this project's rule).
use Rattle.std.specs.Prelude.{◌≡◌, ◌⊎◌, ℕ, Bool, true, false, List, [], ◌∷◌, Result, Ok, codes}
use Rattle.std.specs.Cmp.Lexicographic.{slice_cmp}
use Rattle.std.specs.List.Sorted.{IsPermutation, IsSorted}
use Rattle.std.specs.Ordering.{nat_cmp}
use Rattle.lsm_folder.specs.Calls.{Call, listed, locked}
use Rattle.lsm_folder.specs.declared.folder_fault.FolderFault.{FolderFault}
use Rattle.lsm_folder.specs.declared.lock_kind.LockKind.TheVariants.{Exclusive}
use Rattle.lsm_shelf.specs.declared.shelf_fault.ShelfFault.{ShelfFault}
use Rattle.lsm_directory.specs.Holding.{IsHeld, IsUnheld}
use Rattle.lsm_directory.specs.Logs.{IsFirstUnread, NoneUnread}
use Rattle.lsm_directory.specs.Looking.{AsksSizes, LooksStopped}
use Rattle.lsm_directory.specs.declared.faults.directory_fault.DirectoryFault.{DirectoryFault}
use Rattle.lsm_directory.specs.declared.folder.folder_file.FolderFile.{FolderFile}
use Rattle.lsm_opening.specs.Names.{Leads, LeadsNowhere}
use Rattle.lsm_opening.specs.Tidying.{IsTidied, OnlyReads}
use Rattle.lsm_opening.specs.WriterFault.{of_shelf}
use Rattle.lsm_text.specs.declared.form.Form.TheVariants.{Hex}
use Rattle.lsm_requests.specs.declared.ingest_options.IngestOptions.{IngestOptions}
use Rattle.lsm_opening.specs.declared.prepared.Start.{Start}
use Rattle.lsm_opening.specs.declared.prepared.Start.TheVariants.{Open, Begin}
use Rattle.lsm_opening.specs.declared.faults.writer_fault.WriterFault.{WriterFault}
use Rattle.lsm_opening.specs.declared.faults.writer_fault.WriterFault.TheVariants.{Directory}

-- a database is begun only where no file of one is, and logs are looked at
abbrev pub plainly : IngestOptions
plainly = record { form = Hex; begins = false; beside_log = false; quick = false }

-- At which logs is looked, by their sizes: where it may not be begun or opened beside a log, at all
-- that these names name; and else at none.
abbrev pub LooksAtLogs : Bool → List (List ℕ) → List FolderFile → List Call → List Call → Type 0
LooksAtLogs false names files old new = AsksSizes names files old new
LooksAtLogs true names files old new = (files ≡ []) × (new ≡ old)

-- The folder told its names; these lead to this start, and these are the logs, in the order of
-- names.
pub record IsLookedAt (o : IngestOptions) (start : Start) (files : List FolderFile)
    (old new : List Call) : Type 0 where
  pub names : List (List ℕ)
  pub ordered : List (List ℕ)
  pub same : IsPermutation names ordered
  pub ascending : IsSorted (slice_cmp nat_cmp) ordered
  pub leads : Leads o.begins ordered start
  pub logs : LooksAtLogs o.beside_log ordered files (listed (Ok names) ∷ old) new

-- The folder told its names, which lead to no start, and was asked for nothing else.
pub record IsUnstartable (o : IngestOptions) (e : WriterFault) (old new : List Call) : Type 0 where
  pub names : List (List ℕ)
  pub ordered : List (List ℕ)
  pub same : IsPermutation names ordered
  pub nowhere : LeadsNowhere o.begins ordered e
  pub calls : new ≡ listed (Ok names) ∷ old

-- memory was refused, or a look; or there is no start
abbrev pub StopsLooking : IngestOptions → WriterFault → List Call → List Call → Type 0
StopsLooking o e old new = ((fault : ShelfFault) × (e ≡ of_shelf fault)
    × LooksStopped fault old new) ⊎ IsUnstartable o e old new

-- Where the database that is there is meant, and each of these logs is empty, what its last
-- openings left behind was removed; else nothing was asked for.
abbrev pub TidiesFor : Start → List FolderFile → List Call → List Call → Type 0
TidiesFor Open files old new =
    (NoneUnread 0 0 files × IsTidied old new)
    ⊎ ((n : ℕ) × IsFirstUnread 0 0 files n × (new ≡ old))
TidiesFor (Begin number) files old new = new ≡ old

-- The lock was held, and then the folder was looked at, and tidied.
abbrev pub IsPrepared : IngestOptions → Start → List FolderFile → List Call → List Call → Type 0
IsPrepared o start files old new =
    (held : List Call) × IsHeld Exclusive old held
    × ((looked : List Call) × IsLookedAt o start files held looked
    × TidiesFor start files looked new)

-- The lock was not held, just where another has it or the folder refused; or it was, and the
-- looking stopped.
abbrev pub IsUnprepared : IngestOptions → WriterFault → List Call → List Call → Type 0
IsUnprepared o e old new =
    ((fault : DirectoryFault) × (e ≡ Directory fault) × IsUnheld Exclusive fault old new)
    ⊎ ((held : List Call) × IsHeld Exclusive old held × StopsLooking o e held new)

-- The folder was asked for the lock, and then only read.
abbrev pub OnlyLocks : List Call → List Call → Type 0
OnlyLocks old new = (answer : Result Bool FolderFault)
    × OnlyReads (locked (codes "LOCK") Exclusive answer ∷ old) new
