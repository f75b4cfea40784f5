-- What a run of `bench` leaves of a folder (this project's rule). What it measures, and what it
-- prints, is in no clause.
use Rattle.std.specs.Prelude.{◌≡◌, ◌⊎◌, ℕ, List, Option}
use Rattle.std.specs.Io.KnownBytes.{Keeps}
use Rattle.atomic_table.specs.Seated.{TableId}
use Rattle.lsm_folder.specs.Calls.{AreHonest}
use Rattle.lsm_folder.specs.declared.folder_calls.FolderCalls.{Ghosts}
use Rattle.lsm_shelf.specs.Asked.{Asked}
use Rattle.lsm_shelf.specs.Refusals.{MayRefuse}
use Rattle.lsm_shelf.specs.Told.{Forked, Told}
use Rattle.lsm_shelf.specs.declared.shelf_fault.ShelfFault.{ShelfFault}
use Rattle.lsm_state.specs.Held.{Held, IsLawfulState}
use Rattle.lsm_storage.specs.declared.file.file_shelf.FileShelf.{FileShelf}
use Rattle.lsm_requests.specs.declared.bench_options.BenchOptions.{BenchOptions}
use Rattle.lsm_directory.specs.Folders.{IsShelfAt, told_by}
use Rattle.lsm_directory.specs.Logs.{NoneUnread}
use Rattle.lsm_directory.specs.declared.folder.folder_file.FolderFile.{FolderFile}
use Rattle.lsm_bulk_load.specs.Keeping.{HasComeTo}
use Rattle.lsm_bulk_load.specs.Marks.{marked_in}
use Rattle.lsm_opening.specs.Preparing.{IsPrepared, plainly}
use Rattle.lsm_opening.specs.Starting.{IsBeginRefusal, IsNew}
use Rattle.lsm_opening.specs.declared.faults.writer_fault.WriterFault.{WriterFault}
use Rattle.lsm_opening.specs.declared.prepared.Start.TheVariants.{Begin}
use Rattle.lsm_cmd_bench.specs.Filled.{IsOfPairs, RunsAll}
use Rattle.lsm_cmd_bench.specs.declared.bench_fault.BenchFault.{BenchFault}
use Rattle.lsm_cmd_bench.specs.declared.bench_fault.BenchFault.TheVariants.{Before}

-- The state came from the one that was begun by steps of workers and readers, and by ingests of
-- batches of pairs alone.
abbrev pub HasComeBy : (Asked → ShelfFault → Type 0) → Type 0 → BenchOptions → (found h : Held)
    → Type 0
HasComeBy Refused Honest options found h =
    HasComeTo Refused Honest (IsOfPairs options.num options.value_size) found h

-- A lawful state is left, of which a lock kept this fact, and this is so beside.
abbrev pub Leaves : Type 0 → TableId → (keeps holds : Held → Type 0) → Type 0
Leaves Honest board keeps holds =
    (left : Held) × IsLawfulState Honest board left × ∥ keeps left ∥₁ × holds left

-- A database was begun on the shelf, whose manifest has this number; into it came what the
-- benchmarks bring in, one after another, which is in the lawful state that was left; after the
-- beginning the shelf was asked for forks alone.
pub record IsBenchedOn (Refused : Asked → ShelfFault → Type 0) (Honest : Type 0) (number : ℕ)
    (options : BenchOptions) (was is : Told) : Type 0 where
  pub found : Held
  pub mid : Told
  pub new : IsNew number found was mid
  pub left : Held
  pub board : TableId
  pub lawful : IsLawfulState Honest board left
  pub come : ∥ HasComeBy Refused Honest options found left ∥₁
  pub came : RunsAll options.num options.value_size options.benchmarks.items (marked_in found)
      (marked_in left)
  pub forked : Forked mid is

-- ---- refusals

-- A database was begun so; then benchmarks ended early. Into the lawful state that was left came
-- batches of their pairs, and nothing else.
pub record StopsBenching (Refused : Asked → ShelfFault → Type 0) (Honest : Type 0) (number : ℕ)
    (options : BenchOptions) (was is : Told) : Type 0 where
  pub found : Held
  pub mid : Told
  pub new : IsNew number found was mid
  pub left : Held
  pub board : TableId
  pub lawful : IsLawfulState Honest board left
  pub come : ∥ HasComeBy Refused Honest options found left ∥₁
  pub forked : Forked mid is

-- What a fault says: memory ran out before the shelf was asked for anything, or none was begun; or
-- that.
abbrev pub IsUnbenched : (Asked → ShelfFault → Type 0) → Type 0 → ℕ → BenchOptions → BenchFault
    → Told → Told → Type 0
IsUnbenched Refused Honest number options fault was is =
    ((e : WriterFault) × (fault ≡ Before e) × IsBeginRefusal number Refused e was is)
    ⊎ StopsBenching Refused Honest number options was is

-- ---- on a folder

module _ {C M : Type 0} (folders : Ghosts C M) where
  -- The lock of the folder at the path was held, and no database was there, nor a log but empty
  -- ones. On a shelf of it one was begun, and the benchmarks ran.
  pub record BenchesAt (path : List ℕ) (options : BenchOptions) : Type 0 where
    pub number : ℕ
    pub logs : List FolderFile
    pub flushed : NoneUnread 0 0 logs
    pub begun : FileShelf C M
    pub on : IsShelfAt folders path (IsPrepared plainly (Begin number) logs) begun
    pub ended : FileShelf C M
    pub done : IsBenchedOn MayRefuse (AreHonest folders.calls) number options
        (told_by folders begun) (told_by folders ended)

  -- The lock of the folder at the path was held, and no database was there, nor a log but empty
  -- ones. On a shelf of it this fault was met.
  pub record IsUnbenchedAt (path : List ℕ) (options : BenchOptions) (fault : BenchFault)
      : Type 0 where
    pub number : ℕ
    pub logs : List FolderFile
    pub flushed : NoneUnread 0 0 logs
    pub begun : FileShelf C M
    pub on : IsShelfAt folders path (IsPrepared plainly (Begin number) logs) begun
    pub ended : FileShelf C M
    pub refused : IsUnbenched MayRefuse (AreHonest folders.calls) number options fault
        (told_by folders begun) (told_by folders ended)

  -- nothing was written; or that
  abbrev pub FailsToBench : (path : List ℕ) → BenchOptions → (old new : Option (List ℕ)) → Type 0
  FailsToBench path options old new =
      Keeps old new ⊎ ((fault : BenchFault) × IsUnbenchedAt path options fault)
