-- A program that runs in a folder.
use Rattle.std.proofs.Common.{◌≡◌, ℕ, List, [], ◌∷◌, IfErr, IfOk, inr, sym, subst}
use Rattle.std.specs.Prelude.{Result, Ok, Err}
use Rattle.lsm_codec.specs.Entries.{Entry}
use Rattle.lsm_folder.specs.Calls.{AreHonest, Call, opened}
use Rattle.lsm_folder.specs.declared.folder_calls.FolderCalls.{Ghosts}
use Rattle.lsm_folder.specs.declared.mark.Mark as mark
use Rattle.lsm_shelf.specs.Place.{IsAtPath, Place}
use Rattle.lsm_shelf.specs.Refusals.{MayRefuse}
use Rattle.lsm_shelf.specs.Told.{fresh}
use Rattle.lsm_storage.specs.FileShelf.{folder_of}
use Rattle.lsm_storage.specs.declared.file.file_shelf.FileShelf.{FileShelf}
use Rattle.lsm_directory.specs.Folders.{IsFolderAt, IsShelfAt, stored_at, told_by}
use Rattle.lsm_directory.specs.declared.folder.folder_file.FolderFile.{FolderFile}
use Rattle.lsm_batch.specs.declared.write.Write.{Write}
use Rattle.lsm_requests.specs.declared.ingest_options.IngestOptions.{IngestOptions}
use Rattle.lsm_opening.specs.Preparing.{IsPrepared, IsUnprepared, plainly}
use Rattle.lsm_opening.specs.declared.faults.writer_fault.WriterFault.{WriterFault}
use Rattle.lsm_opening.specs.declared.prepared.Start.{Start}
use Rattle.lsm_store.specs.declared.worker_end.WorkerEnd.{WorkerEnd}
use Rattle.lsm_database.specs.Running.{IsRunRefusal, IsUnopened, Runs, RunsAt}

-- looked at so, by whatever name
pub prepared_by : {o : IngestOptions} (start : Start) (logs : List FolderFile) (old new : List Call)
    → o ≡ plainly → IsPrepared o start logs old new → IsPrepared plainly start logs old new
prepared_by {o} start logs old new same p = subst (λ (x : IngestOptions). IsPrepared x start logs old new) same p

pub unprepared_by : {o : IngestOptions} {e : WriterFault} {old new : List Call}
    → o ≡ plainly → IsUnprepared o e old new → IsUnprepared plainly e old new
unprepared_by {o} {e} {old} {new} same u = subst (λ (x : IngestOptions). IsUnprepared x e old new) same u

module _ {C M : Type 0} (folders : Ghosts C M) where
  -- a folder that was opened there, and asked for this since
  pub folder_at : (path : List ℕ) (Called : List Call → List Call → Type 0) (first now : C)
      → IsAtPath path (folders.place first) → folders.calls first ≡ opened ∷ []
      → Called (folders.calls first) (folders.calls now) → folders.place now ≡ folders.place first
      → IsFolderAt folders path Called now
  folder_at path Called first now at none called same = record {
    at = subst (λ (p : Place). IsAtPath path p) (sym same) at;
    called = subst (λ (cs : List Call). Called cs (folders.calls now)) none called;
  }

  -- a shelf on it
  pub shelf_on : (path : List ℕ) (Called : List Call → List Call → Type 0) (folder : C) (shelf : FileShelf C M)
      → IsFolderAt folders path Called folder → folder_of shelf ≡ folder
      → told_by folders shelf ≡ fresh (folders.place folder) → IsShelfAt folders path Called shelf
  shelf_on path Called folder shelf at on new = record {
    on = subst (λ (f : C). IsFolderAt folders path Called f) (sym on) at;
    new = subst (λ (f : C). told_by folders shelf ≡ fresh (folders.place f)) (sym on) new;
  }

  -- where the program ran on it
  pub runs_at : {X E : Type 0} (r : Result X E) (path : List ℕ)
      (Asks : List Entry → List Write → Type 0) (Says : X → (before after : List Entry) → Type 0)
      (ends : X → List WorkerEnd) (start : Start) (logs : List FolderFile)
      (begun ended : FileShelf C M)
      → IsShelfAt folders path (IsPrepared plainly start logs) begun
      → IfOk r (λ x. Runs MayRefuse (AreHonest folders.calls) start logs 2 Asks (Says x) (ends x)
      (told_by folders begun) (told_by folders ended))
      → IfOk r (λ x. RunsAt folders path Asks (Says x) (ends x))
  runs_at (Ok x) path Asks Says ends start logs begun ended on ran =
      record { start = start; logs = logs; begun = begun; on = on; ended = ended; ran = ran }
  runs_at (Err e) path Asks Says ends start logs begun ended on ran = tt

module _ {C M : Type 0} (folders : Ghosts C M) (marks : mark.Ghosts M) where
  -- and where it did not
  pub unrun_at : {X : Type 0} (r : Result X WriterFault) (path : List ℕ) (start : Start) (logs : List FolderFile)
      (begun ended : FileShelf C M) → IsShelfAt folders path (IsPrepared plainly start logs) begun
      → IfErr r (λ e. IsRunRefusal (stored_at folders marks (told_by folders begun).place) MayRefuse
      (AreHonest folders.calls) start logs 2 e (told_by folders begun) (told_by folders ended))
      → IfErr r (IsUnopened folders marks path)
  unrun_at (Ok x) path start logs begun ended on refused = tt
  unrun_at (Err e) path start logs begun ended on refused =
      inr record { start = start; logs = logs; begun = begun; on = on; ended = ended; refused = refused }
