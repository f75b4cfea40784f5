-- One run, from its steps.
use Rattle.std.proofs.Common.{◌≡◌, ℕ, List, [], ◌∷◌, subst, sym, inr, refl}
use Rattle.lsm_folder.specs.Calls.{Call, opened}
use Rattle.lsm_folder.specs.declared.folder_calls.FolderCalls.{Ghosts}
use Rattle.lsm_shelf.specs.Place.{IsAtPath, Place}
use Rattle.lsm_directory.specs.Folders.{IsFolderAt}
use Rattle.lsm_opening.specs.Preparing.{IsUnprepared}
use Rattle.lsm_opening.specs.declared.faults.writer_fault.WriterFault.{WriterFault}
use Rattle.lsm_requests.specs.declared.ingest_options.IngestOptions.{IngestOptions}
use Rattle.lsm_cmd_recover.specs.Recovered.{IsUnready}
use Rattle.lsm_recovery.specs.declared.bring_fault.BringFault.TheVariants.{Folder}

-- a folder that was asked for something since it was opened
module _ {C M : Type 0} (folders : Ghosts C M) where
  pub folder_at : (path : List ℕ) (Called : List Call → List Call → Type 0) (first now : C) → IsAtPath path (folders.place first) → folders.calls first ≡ opened ∷ []
      → Called (folders.calls first) (folders.calls now) → folders.place now ≡ folders.place first → IsFolderAt folders path Called now
  folder_at path Called first now at none called same = record {
    at = subst (λ (p : Place). IsAtPath path p) (sym same) at;
    called = subst (λ (cs : List Call). Called cs (folders.calls now)) none called;
  }

  -- which was not prepared
  pub unready : (options : IngestOptions) (path : List ℕ) (first now : C) (e : WriterFault)
      → IsAtPath path (folders.place first) → folders.calls first ≡ opened ∷ []
      → IsUnprepared options e (folders.calls first) (folders.calls now)
      → folders.place now ≡ folders.place first → IsUnready folders options path (Folder e)
  unready options path first now e at none refused same =
      inr (inr (
        e,
        refl,
        (now, folder_at path (IsUnprepared options e) first now at none refused same),
      ))
