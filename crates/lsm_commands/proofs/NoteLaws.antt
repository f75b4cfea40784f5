-- What is noted of a folder: notes that were written, or of which a beginning was; and why none is.
use Rattle.std.proofs.Common.{◌≡◌, ◌≢◌, ℕ, Bool, List, [], Option, OnErr, OnOk, append-nil}
use Rattle.std.proofs.Common.{inl, inr, refl, sym}
use Rattle.std.specs.Prelude.{Result, Ok, Err, IsTrue}
use Rattle.std.specs.Io.KnownBytes.{Appends, Keeps}
use Rattle.std.proofs.KnownBytes.{Appends-kept, Appends-nil}
use Rattle.lsm_folder.specs.declared.folder_calls.FolderCalls.{Ghosts}
use Rattle.lsm_text.specs.Printing.{Begins}
use Rattle.lsm_directory.specs.Beside.{IsFirstLeftOut, IsWhole}
use Rattle.lsm_directory.specs.declared.faults.directory_fault.DirectoryFault.{DirectoryFault}
use Rattle.lsm_directory.specs.declared.folder.beside.Beside.{Beside}
use Rattle.lsm_directory.specs.declared.folder.named_manifest.NamedManifest.{NamedManifest}
use Rattle.lsm_commands.specs.Noting.{IsNew, IsNotedAt, IsRefusedAt, IsSeenAt, IsUnseenAt, notes}

-- nothing was written
pub none_begun : (old new : Option (List ℕ)) (text : List ℕ) → Keeps old new
    → Begins old new text
none_begun old new text kept =
    (text, ([], Appends-kept old old new [] (Appends-nil old) kept, refl))

-- all was, or a beginning
pub begun_at_least : {T E : Type 0} (r : Result T E) (old new : Option (List ℕ)) (text : List ℕ)
    → OnOk r (Appends old new text) → OnErr r (Begins old new text) → Begins old new text
begun_at_least (Ok x) old new text written begun = ([], (text, written, sym (append-nil text)))
begun_at_least (Err e) old new text written begun = begun

module _ {C M : Type 0} (folders : Ghosts C M) (path : List ℕ) (logs strict : Bool)
    (fault : DirectoryFault) (unseen : IsUnseenAt folders path fault) where
  left_by : (old new : Option (List ℕ)) → (IsTrue strict → IsNew fault) × Keeps old new
      → IsNotedAt folders path logs strict old new
  left_by old new (is_new, kept) = inl ((fault, unseen, is_new), kept)

  -- the folder was not seen, and that is left so
  pub unseen_at : (status : ℕ) (old new : Option (List ℕ))
      → (status ≡ 0 → (IsTrue strict → IsNew fault) × Keeps old new) → status ≡ 0
      → IsNotedAt folders path logs strict old new
  unseen_at status old new says zero = left_by old new (says zero)

  stopped_by : (status : ℕ) → (status ≡ 1) × IsTrue strict × (IsNew fault → ⊥)
      → (status ≡ 1) × IsRefusedAt folders path logs strict
  stopped_by status (one, is, other) = (one, (is, inl (fault, unseen, other)))

  -- it was not, and that is refused
  pub unseen_stops : (status : ℕ)
      → (status ≢ 0 → (status ≡ 1) × IsTrue strict × (IsNew fault → ⊥)) → status ≢ 0
      → (status ≡ 1) × IsRefusedAt folders path logs strict
  unseen_stops status says other = stopped_by status (says other)

module _ {C M : Type 0} (folders : Ghosts C M) (path : List ℕ) (logs strict : Bool)
    (m : NamedManifest) (beside : Beside) (seen : IsSeenAt folders path logs m beside) where
  -- it was, and is noted
  pub noted_at : (status : ℕ) (old new : Option (List ℕ))
      → (status ≡ 0 → IsTrue strict → IsWhole m beside)
      → (status ≡ 0 → Begins old new (notes m beside)) → status ≡ 0
      → IsNotedAt folders path logs strict old new
  noted_at status old new whole noted zero = inr (m, beside, seen, whole zero, noted zero)

  refused_by : (status : ℕ)
      → (status ≡ 1) × IsTrue strict × ((fault : DirectoryFault) × IsFirstLeftOut m beside fault)
      → (status ≡ 1) × IsRefusedAt folders path logs strict
  refused_by status (one, is, (fault, left)) = (one, (is, inr (m, beside, fault, seen, left)))

  -- it was, and is refused
  pub refused_at : (status : ℕ)
      → (status ≢ 0 → (status ≡ 1) × IsTrue strict
      × ((fault : DirectoryFault) × IsFirstLeftOut m beside fault))
      → status ≢ 0 → (status ≡ 1) × IsRefusedAt folders path logs strict
  refused_at status says other = refused_by status (says other)
