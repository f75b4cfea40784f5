-- What a run says, by what the benchmarks say of the shelf of the folder that was opened.
use Rattle.std.proofs.Common.{◌≡◌, ℕ, List, Option, IfErr, OnErr, OnOk, inr, subst, sym}
use Rattle.std.specs.Prelude.{Result, Ok, Err}
use Rattle.lsm_folder.specs.Calls.{AreHonest}
use Rattle.lsm_folder.specs.declared.folder_calls.FolderCalls.{Ghosts}
use Rattle.atomic_table.specs.Seated.{TableId}
use Rattle.lsm_shelf.specs.Refusals.{MayRefuse}
use Rattle.lsm_state.specs.Held.{Held, IsLawfulState}
use Rattle.lsm_storage.specs.declared.file.file_shelf.FileShelf.{FileShelf}
use Rattle.lsm_requests.specs.declared.bench_options.BenchOptions.{BenchOptions}
use Rattle.lsm_requests.specs.declared.benchmark.Benchmark.{Benchmark}
use Rattle.lsm_directory.specs.Folders.{IsShelfAt, told_by}
use Rattle.lsm_directory.specs.Logs.{NoneUnread}
use Rattle.lsm_directory.specs.declared.folder.folder_file.FolderFile.{FolderFile}
use Rattle.lsm_bulk_load.specs.Marks.{Marked, marked_in}
use Rattle.lsm_opening.specs.Preparing.{IsPrepared, plainly}
use Rattle.lsm_opening.specs.declared.prepared.Start.{Start}
use Rattle.lsm_opening.specs.declared.prepared.Start.TheVariants.{Begin}
use Rattle.lsm_cmd_bench.specs.Benched.{BenchesAt, FailsToBench, IsBenchedOn, IsUnbenched, Leaves}
use Rattle.lsm_cmd_bench.specs.Filled.{RunsAll}
use Rattle.lsm_cmd_bench.specs.declared.bench_fault.BenchFault.{BenchFault}

-- the state that is just as far as the mark behind the benchmarks is what they left
pub left_at : {T F : Type 0} (r : Result T F) (Honest : Type 0) (board : TableId) (keeps : Held → Type 0) (keys size : ℕ) (bs : List Benchmark) (was mark : Marked) (left : Held)
    → IsLawfulState Honest board left → ∥ keeps left ∥₁ → RunsAll keys size bs was mark → OnOk r (marked_in left ≡ mark)
    → OnOk r (Leaves Honest board keeps (λ h. RunsAll keys size bs was (marked_in h)))
left_at (Ok x) Honest board keeps keys size bs was mark left lawful kept ran at = (left, lawful, kept, subst (λ (m : Marked). RunsAll keys size bs was m) (sym at) ran)
left_at (Err e) Honest board keeps keys size bs was mark left lawful kept ran at = tt

pub stopped_at : {T F : Type 0} (r : Result T F) (Honest : Type 0) (board : TableId) (keeps : Held → Type 0) (left : Held) → IsLawfulState Honest board left → ∥ keeps left ∥₁
    → OnErr r (Leaves Honest board keeps (λ h. Unit {0}))
stopped_at (Ok x) Honest board keeps left lawful kept = tt
stopped_at (Err e) Honest board keeps left lawful kept = (left, lawful, kept, tt)

module _ {C M : Type 0} (folders : Ghosts C M) where
  pub benches_at : {T F : Type 0} (r : Result T F) (path : List ℕ) (options : BenchOptions) (number : ℕ) (start : Start) (logs : List FolderFile) (begun ended : FileShelf C M)
      → start ≡ Begin number → NoneUnread 0 0 logs → IsShelfAt folders path (IsPrepared plainly start logs) begun
      → OnOk r (IsBenchedOn MayRefuse (AreHonest folders.calls) number options (told_by folders begun) (told_by folders ended)) → OnOk r (BenchesAt folders path options)
  benches_at (Ok x) path options number start logs begun ended is flushed on done = record {
    number = number;
    logs = logs;
    flushed = flushed;
    begun = begun;
    on = subst (λ (s : Start). IsShelfAt folders path (IsPrepared plainly s logs) begun) is on;
    ended = ended;
    done = done;
  }
  benches_at (Err e) path options number start logs begun ended is flushed on done = tt

  pub fails_to_bench : {T : Type 0} (r : Result T BenchFault) (path : List ℕ) (options : BenchOptions) (number : ℕ) (start : Start) (logs : List FolderFile) (begun ended : FileShelf C M) (old new : Option (List ℕ))
      → start ≡ Begin number → NoneUnread 0 0 logs → IsShelfAt folders path (IsPrepared plainly start logs) begun
      → IfErr r (λ e. IsUnbenched MayRefuse (AreHonest folders.calls) number options e (told_by folders begun) (told_by folders ended)) → OnErr r (FailsToBench folders path options old new)
  fails_to_bench (Ok x) path options number start logs begun ended old new is flushed on fault = tt
  fails_to_bench (Err e) path options number start logs begun ended old new is flushed on fault = inr (
    e,
    record {
      number = number;
      logs = logs;
      flushed = flushed;
      begun = begun;
      on = subst (λ (s : Start). IsShelfAt folders path (IsPrepared plainly s logs) begun) is on;
      ended = ended;
      refused = fault;
    },
  )
