-- What comes of the logs of a folder, by a shelf on a fork of it.
use Rattle.std.proofs.Common.{◌≡◌, ◌∙◌, Bool, List, Result, Ok, Err, ap, inr}
use Rattle.std.specs.Prelude.{IfErr, IfOk}
use Rattle.lsm_folder.specs.Calls.{AreHonest}
use Rattle.lsm_folder.specs.declared.folder_calls.FolderCalls.{Ghosts}
use Rattle.lsm_folder.specs.declared.mark.Mark as mark
use Rattle.lsm_shelf.specs.Refusals.{MayRefuse}
use Rattle.lsm_shelf.specs.Told.{fresh}
use Rattle.lsm_storage.specs.declared.file.file_shelf.FileShelf.{FileShelf}
use Rattle.lsm_directory.specs.Folders.{stored_at, told_by}
use Rattle.lsm_directory.specs.declared.folder.folder_file.FolderFile.{FolderFile}
use Rattle.lsm_recovery.specs.Recovered.{FailsTo, IsRecovered, IsUnrecovered, RecoversBy, moment}
use Rattle.lsm_recovery.specs.declared.bring_fault.BringFault.{BringFault}
use Rattle.lsm_recovery.specs.declared.brought.Brought.{Brought}

module _ {C M : Type 0} (folders : Ghosts C M) (marks : mark.Ghosts M) (to_first_fault : Bool)
    (files : List FolderFile) (old new fork : C) (begun ended : FileShelf C M)
    (told : told_by folders begun ≡ fresh (folders.place fork))
    (same : folders.place fork ≡ folders.place old) where
  pub done_on : (r : Result Brought BringFault)
      → IfOk r (λ b. IsRecovered to_first_fault
      (stored_at folders marks (told_by folders begun).place) (AreHonest folders.calls) files b
      (moment folders old begun) (moment folders new ended))
      → IfOk r (λ b. RecoversBy folders marks to_first_fault files old new b)
  done_on (Ok b) done = record {
    begun = begun;
    fresh_shelf = told ∙ ap fresh same;
    ended = ended;
    done = done;
  }
  done_on (Err e) done = tt

  pub refused_on : (r : Result Brought BringFault)
      → IfErr r (λ e. IsUnrecovered to_first_fault
      (stored_at folders marks (told_by folders begun).place) MayRefuse
      (AreHonest folders.calls) files e (moment folders old begun) (moment folders new ended))
      → IfErr r (FailsTo folders marks to_first_fault files old new)
  refused_on (Ok b) refused = tt
  refused_on (Err e) refused = inr record {
    begun = begun;
    fresh_shelf = told ∙ ap fresh same;
    ended = ended;
    refused = refused;
  }
