-- What a run that writes says, by what its command says of the folder or the shelf that was opened.
use Rattle.std.proofs.Common.{◌≡◌, ◌≢◌, ℕ, List, Option, IfErr, IfOk, OnErr, OnOk, [], ◌∷◌, inr, subst}
use Rattle.std.specs.Prelude.{Result, Ok, Err}
use Rattle.std.specs.Io.KnownBytes.{Keeps}
use Rattle.lsm_batch.specs.declared.write.Write.{Write}
use Rattle.lsm_folder.specs.Calls.{AreHonest, opened}
use Rattle.lsm_folder.specs.declared.folder_calls.FolderCalls.{Ghosts}
use Rattle.lsm_folder.specs.declared.mark.Mark as mark
use Rattle.lsm_shelf.specs.Refusals.{MayRefuse}
use Rattle.lsm_shelf.specs.Place.{IsAtPath, Place}
use Rattle.lsm_shelf.specs.Told.{Told, fresh}
use Rattle.lsm_storage.specs.declared.file.file_shelf.FileShelf.{FileShelf}
use Rattle.lsm_requests.specs.declared.clean_options.CleanOptions.{CleanOptions}
use Rattle.lsm_requests.specs.declared.ingest_options.IngestOptions.{IngestOptions}
use Rattle.lsm_cmd_write.specs.Cleaning.{HasNone, IsCleaned, IsKept, IsUncleaned, IsUnkept, Needs}
use Rattle.lsm_directory.specs.Folders.{IsShelfAt, stored_at, told_by}
use Rattle.lsm_cmd_write.specs.Ingesting.{BringsIn, KeepsOut}
use Rattle.lsm_opening.specs.Preparing.{IsPrepared}
use Rattle.lsm_cmd_write.specs.Ingested.{ComesInAt, FailsToBringIn, kept_at}
use Rattle.lsm_cmd_write.specs.Cleaned.{FailsToClean, IsCleanedAt}
use Rattle.lsm_cmd_write.specs.declared.cleaning.kept.Kept.{Kept}
use Rattle.lsm_opening.specs.declared.faults.writer_fault.WriterFault.{WriterFault}
use Rattle.lsm_opening.specs.declared.faults.writer_fault.WriterFault.TheVariants.{Write as WriteFault}
use Rattle.lsm_directory.specs.declared.folder.folder_file.FolderFile.{FolderFile}
use Rattle.lsm_opening.specs.declared.prepared.Start.{Start}

module _ {C M : Type 0} (folders : Ghosts C M) where
  -- ---- what was done on it

  pub comes_in_at : {T F : Type 0} (r : Result T F)
      (holds : Place → (name image : List ℕ) → Type 0) (path : List ℕ) (options : IngestOptions)
      (ws : List Write) (start : Start) (logs : List FolderFile) (begun ended : FileShelf C M)
      (old new : Option (List ℕ)) → IsShelfAt folders path (IsPrepared options start logs) begun
      → OnOk r (BringsIn start options.quick (kept_at holds (told_by folders begun).place)
      (AreHonest folders.calls) logs ws (told_by folders begun) (told_by folders ended) old new)
      → OnOk r (ComesInAt folders holds path options ws old new)
  comes_in_at (Ok x) holds path options ws start logs begun ended old new on done =
      record { start = start; logs = logs; begun = begun; on = on; ended = ended; done = done }
  comes_in_at (Err e) holds path options ws start logs begun ended old new on done = tt

  pub cleans_at : {T F : Type 0} (r : Result T F) (path : List ℕ) (options : CleanOptions) (begun ended : C) (old new : Option (List ℕ)) → IsAtPath path (folders.place begun)
      → folders.calls begun ≡ opened ∷ [] → folders.place ended ≡ folders.place begun
      → OnOk r (IsCleaned folders options (folders.place begun) (folders.calls begun) (folders.calls ended) old new) → OnOk r (IsCleanedAt folders path options old new)
  cleans_at (Ok x) path options begun ended old new at none same done = record { begun = begun; on = record { at = at; called = none }; ended = ended; same = same; done = done }
  cleans_at (Err e) path options begun ended old new at none same done = tt

  -- ---- what its database needs

  pub needs : {E : Type 0} (r : Result Kept E) (place : Place) (was : Told) (shelf : FileShelf C M) → was ≡ fresh place
      → IfOk r (λ k. IsKept (AreHonest folders.calls) k.journal k.rest k.tables.items was (told_by folders shelf)) → IfOk r (λ k. Needs folders place k.journal k.rest k.tables.items)
  needs (Ok k) place was shelf new kept = (shelf, subst (λ (t : Told). IsKept (AreHonest folders.calls) k.journal k.rest k.tables.items t (told_by folders shelf)) new kept)
  needs (Err e) place was shelf new kept = tt

module _ {C M : Type 0} (folders : Ghosts C M) (marks : mark.Ghosts M) where
  -- ---- what was not done on it

  pub has_none : {T : Type 0} (r : Result T WriterFault) (place : Place) (was : Told) (shelf : FileShelf C M) → was ≡ fresh place
      → IfErr r (λ e. IsUnkept (stored_at folders marks was.place) MayRefuse (AreHonest folders.calls) e was (told_by folders shelf)) → IfErr r (λ e. HasNone folders marks place e)
  has_none (Ok x) place was shelf new unkept = tt
  has_none (Err e) place was shelf new unkept =
      inr (shelf, subst (λ (t : Told). IsUnkept (stored_at folders marks t.place) MayRefuse (AreHonest folders.calls) e t (told_by folders shelf)) new unkept)

  pub fails_to_bring_in : {T : Type 0} (r : Result T WriterFault)
      (holds : Place → (name image : List ℕ) → Type 0) (path : List ℕ) (options : IngestOptions)
      (ws : List Write) (start : Start) (logs : List FolderFile) (begun ended : FileShelf C M)
      (old new : Option (List ℕ)) → IsShelfAt folders path (IsPrepared options start logs) begun
      → IfErr r (λ e. KeepsOut start options.quick (kept_at holds (told_by folders begun).place)
      (stored_at folders marks (told_by folders begun).place) MayRefuse (AreHonest folders.calls)
      logs ws e (told_by folders begun) (told_by folders ended))
      → IfErr r (λ e. e ≢ WriteFault → Keeps old new)
      → OnErr r (FailsToBringIn folders marks holds path options ws old new)
  fails_to_bring_in (Ok x) holds path options ws start logs begun ended old new on says left = tt
  fails_to_bring_in (Err e) holds path options ws start logs begun ended old new on says left =
      inr (
        e,
        record {
          start = start;
          logs = logs;
          begun = begun;
          on = on;
          ended = ended;
          says = says;
          left = left;
        },
      )

  pub fails_to_clean : {T : Type 0} (r : Result T WriterFault) (path : List ℕ) (options : CleanOptions) (begun ended : C) (old new : Option (List ℕ)) → IsAtPath path (folders.place begun)
      → folders.calls begun ≡ opened ∷ [] → folders.place ended ≡ folders.place begun
      → IfErr r (λ e. IsUncleaned folders marks options (folders.place begun) e (folders.calls begun) (folders.calls ended) old new)
      → IfErr r (λ e. FailsToClean folders marks path options e old new)
  fails_to_clean (Ok x) path options begun ended old new at none same stopped = tt
  fails_to_clean (Err e) path options begun ended old new at none same stopped =
      inr record { begun = begun; on = record { at = at; called = none }; ended = ended; same = same; stopped = stopped }
