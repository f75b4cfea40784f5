-- What a run says, by what a conversation says of the shelf of the folder that was opened.
use Rattle.std.proofs.Common.{◌≡◌, ℕ, Bool, true, false, List, Option, IfErr, OnErr, OnOk}
use Rattle.std.proofs.Common.{inl, inr, subst, sym}
use Rattle.std.specs.Prelude.{Result, Ok, Err}
use Rattle.std.specs.Io.KnownBytes.{Keeps}
use Rattle.lsm_folder.specs.Calls.{AreHonest}
use Rattle.lsm_folder.specs.declared.folder_calls.FolderCalls.{Ghosts}
use Rattle.lsm_folder.specs.declared.mark.Mark as mark
use Rattle.lsm_shelf.specs.Refusals.{MayRefuse}
use Rattle.lsm_storage.specs.declared.file.file_shelf.FileShelf.{FileShelf}
use Rattle.lsm_requests.specs.declared.ingest_options.IngestOptions.{IngestOptions}
use Rattle.lsm_text.specs.declared.form.Form.{Form}
use Rattle.lsm_directory.specs.Beside.{LooksBeside}
use Rattle.lsm_directory.specs.Folders.{IsShelfAt, stored_at, told_by}
use Rattle.lsm_directory.specs.declared.folder.beside.Beside.{Beside}
use Rattle.lsm_directory.specs.declared.folder.folder_file.FolderFile.{FolderFile}
use Rattle.lsm_opening.specs.Preparing.{IsPrepared}
use Rattle.lsm_opening.specs.Reading.{OnlyReads}
use Rattle.lsm_opening.specs.declared.prepared.Start.{Start}
use Rattle.lsm_cmd_shell.specs.Conversing.{IsConversed, IsUnconversed}
use Rattle.lsm_cmd_shell.specs.Reading.{ConversesToRead, IsReadingFault}
use Rattle.lsm_cmd_shell.specs.Talked.{ConversesAt, FailsToConverse, FailsToRead, FailsToTalk}
use Rattle.lsm_cmd_shell.specs.Talked.{ReadsAt, TalksAt}
use Rattle.lsm_cmd_shell.specs.declared.shell_fault.ShellFault.{ShellFault}

module _ {C M : Type 0} (folders : Ghosts C M) where
  pub talks_at : {T F : Type 0} (r : Result T F) (path : List ℕ) (options : IngestOptions)
      (workers : Option ℕ) (bails : Bool) (input : Option (List ℕ)) (start : Start)
      (logs : List FolderFile) (begun ended : FileShelf C M) (old new : Option (List ℕ))
      → IsShelfAt folders path (IsPrepared options start logs) begun
      → OnOk r (IsConversed workers MayRefuse (AreHonest folders.calls) start logs options.form
      bails input (told_by folders begun) (told_by folders ended) old new)
      → OnOk r (ConversesAt folders path options workers bails input old new)
  talks_at (Ok x) path options workers bails input start logs begun ended old new on done = record
      { start = start; logs = logs; begun = begun; on = on; ended = ended; done = done }
  talks_at (Err e) path options workers bails input start logs begun ended old new on done = tt

  pub reads_at : {T F : Type 0} (r : Result T F) (path : List ℕ) (form : Form) (bails : Bool)
      (input : Option (List ℕ)) (beside : Beside)
      (begun ended : FileShelf C M) (old new : Option (List ℕ))
      → IsShelfAt folders path (LooksBeside beside) begun
      → OnOk r (ConversesToRead (AreHonest folders.calls) form bails input (Ok tt)
      (told_by folders begun) (told_by folders ended) old new)
      → OnlyReads (told_by folders begun) (told_by folders ended)
      → OnOk r (ReadsAt folders path form bails input old new)
  reads_at (Ok x) path form bails input beside begun ended old new on done reads =
      record
      { beside = beside; begun = begun; on = on; ended = ended; done = done; reads = reads }
  reads_at (Err e) path form bails input beside begun ended old new on done reads = tt

module _ {C M : Type 0} (folders : Ghosts C M) (marks : mark.Ghosts M) where
  pub fails_to_talk : {T : Type 0} (r : Result T ShellFault) (path : List ℕ)
      (options : IngestOptions) (workers : Option ℕ) (bails : Bool) (input : Option (List ℕ))
      (start : Start) (logs : List FolderFile) (begun ended : FileShelf C M)
      (old new : Option (List ℕ)) → IsShelfAt folders path (IsPrepared options start logs) begun
      → IfErr r (λ e. IsUnconversed workers (stored_at folders marks (told_by folders begun).place)
      MayRefuse (AreHonest folders.calls) start logs options.form bails input e
      (told_by folders begun) (told_by folders ended) old new)
      → OnErr r (FailsToConverse folders marks path options workers bails input old new)
  fails_to_talk (Ok x) path options workers bails input start logs begun ended old new on fault = tt
  fails_to_talk (Err e) path options workers bails input start logs begun ended old new on fault =
      inr (
        e,
        record
            { start = start; logs = logs; begun = begun; on = on; ended = ended; refused = fault },
      )

  pub fails_to_read : {T : Type 0} (r : Result T ShellFault) (path : List ℕ) (form : Form)
      (bails : Bool) (input : Option (List ℕ))
      (beside : Beside) (begun ended : FileShelf C M) (old new : Option (List ℕ))
      → IsShelfAt folders path (LooksBeside beside) begun
      → IfErr r (λ e. IsReadingFault (stored_at folders marks (told_by folders begun).place)
      MayRefuse (AreHonest folders.calls) form bails input e (told_by folders begun)
      (told_by folders ended) old new)
      → OnlyReads (told_by folders begun) (told_by folders ended)
      → OnErr r (FailsToRead folders marks path form bails input old new)
  fails_to_read (Ok x) path form bails input beside begun ended old new on fault reads =
      tt
  fails_to_read (Err e) path form bails input beside begun ended old new on fault reads =
      inr (
        e,
        record {
          beside = beside;
          begun = begun;
          on = on;
          ended = ended;
          refused = fault;
          reads = reads;
        },
      )

  -- before that was looked at
  pub fails_early : (path : List ℕ) (options : IngestOptions) (workers : Option ℕ)
      (bails reads_only : Bool) (input : Option (List ℕ)) (old new : Option (List ℕ))
      → Keeps old new
      → FailsToTalk folders marks path options workers bails reads_only input old new
  fails_early path options workers bails true input old new kept = inl kept
  fails_early path options workers bails false input old new kept = inl kept

  -- where the folder is only read
  pub fails_reading : {T : Type 0} (r : Result T ShellFault) (path : List ℕ)
      (options : IngestOptions) (workers : Option ℕ) (bails reads_only : Bool)
      (input : Option (List ℕ)) (old new : Option (List ℕ)) → reads_only ≡ true
      → OnErr r (FailsToRead folders marks path options.form bails input old new)
      → OnErr r (FailsToTalk folders marks path options workers bails reads_only input old new)
  fails_reading r path options workers bails reads_only input old new is fails = subst
      (λ (b : Bool). OnErr r (FailsToTalk folders marks path options workers bails b input old new))
      (sym is) fails

  pub fails_writing : {T : Type 0} (r : Result T ShellFault) (path : List ℕ)
      (options : IngestOptions) (workers : Option ℕ) (bails reads_only : Bool)
      (input : Option (List ℕ)) (old new : Option (List ℕ)) → reads_only ≡ false
      → OnErr r (FailsToConverse folders marks path options workers bails input old new)
      → OnErr r (FailsToTalk folders marks path options workers bails reads_only input old new)
  fails_writing r path options workers bails reads_only input old new is fails = subst
      (λ (b : Bool). OnErr r (FailsToTalk folders marks path options workers bails b input old new))
      (sym is) fails

module _ {C M : Type 0} (folders : Ghosts C M) where
  pub talks_reading : {T F : Type 0} (r : Result T F) (path : List ℕ) (options : IngestOptions)
      (workers : Option ℕ) (bails reads_only : Bool) (input : Option (List ℕ))
      (old new : Option (List ℕ)) → reads_only ≡ true
      → OnOk r (ReadsAt folders path options.form bails input old new)
      → OnOk r (TalksAt folders path options workers bails reads_only input old new)
  talks_reading r path options workers bails reads_only input old new is talks = subst
      (λ (b : Bool). OnOk r (TalksAt folders path options workers bails b input old new))
      (sym is) talks

  pub talks_writing : {T F : Type 0} (r : Result T F) (path : List ℕ) (options : IngestOptions)
      (workers : Option ℕ) (bails reads_only : Bool) (input : Option (List ℕ))
      (old new : Option (List ℕ)) → reads_only ≡ false
      → OnOk r (ConversesAt folders path options workers bails input old new)
      → OnOk r (TalksAt folders path options workers bails reads_only input old new)
  talks_writing r path options workers bails reads_only input old new is talks = subst
      (λ (b : Bool). OnOk r (TalksAt folders path options workers bails b input old new))
      (sym is) talks
