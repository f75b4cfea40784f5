-- A batch that comes into a state that is there, which was begun or opened, or opened quickly.
use Rattle.std.proofs.Common.{◌≡◌, ◌≢◌, ℕ, List, Option, IfErr, OnErr, OnOk, inl, inr, subst}
use Rattle.std.specs.Prelude.{Result, Ok, Err}
use Rattle.std.specs.Io.KnownBytes.{Keeps as KeepsBytes}
use Rattle.lsm_shelf.specs.Asked.{Asked}
use Rattle.lsm_shelf.specs.Place.{Place}
use Rattle.lsm_shelf.specs.declared.shelf_fault.ShelfFault.{ShelfFault}
use Rattle.lsm_shelf.specs.Told.{Told}
use Rattle.lsm_batch.specs.declared.write.Write.{Write}
use Rattle.lsm_manifest.specs.Shape.{Form}
use Rattle.lsm_state.specs.Held.{Held}
use Rattle.lsm_state.specs.declared.options.Options.{Options}
use Rattle.lsm_directory.specs.declared.folder.folder_file.FolderFile.{FolderFile}
use Rattle.lsm_opening.specs.Parts.{usual}
use Rattle.lsm_opening.specs.Quick.{IsNotOpenedQuickly, OpensQuickly}
use Rattle.lsm_opening.specs.Starting.{IsStarted}
use Rattle.lsm_opening.specs.declared.prepared.Start.{Start}
use Rattle.lsm_opening.specs.declared.faults.writer_fault.WriterFault.{WriterFault}
use Rattle.lsm_cmd_write.specs.Ingesting.{IsBroughtBehind, IsBroughtIn, IsBroughtInQuickly}
use Rattle.lsm_cmd_write.specs.Ingesting.{IsBroughtInUnder, IsFaultBehind, IsFaultUnder}
use Rattle.lsm_cmd_write.specs.Ingesting.{IsIngestFault, IsQuickFault}
use Rattle.lsm_admission.specs.Keeping.{KeepsTables}

-- ---- begun or opened

pub behind_done : {T F : Type 0} (r : Result T F) (Honest : Type 0) (start : Start)
    (logs : List FolderFile) (ws : List Write) (state : Held) (was mid is : Told)
    (old new : Option (List ℕ)) → IsStarted Honest start logs state was mid
    → OnOk r (IsBroughtBehind state ws mid is old new)
    → OnOk r (IsBroughtIn Honest start logs ws was is old new)
behind_done (Ok x) Honest start logs ws state was mid is old new s (r, (after, i), said) = (
  r,
  record { before = state; after = after; mid = mid; started = s; ingested = i },
  said,
)
behind_done (Err e) Honest start logs ws state was mid is old new s b = tt

pub behind_fault : {T : Type 0} (r : Result T WriterFault) (Stored : ℕ → List ℕ → Type 0)
    (Refused : Asked → ShelfFault → Type 0) (Honest : Type 0) (start : Start)
    (logs : List FolderFile) (ws : List Write) (state : Held) (was mid is : Told)
    → IsStarted Honest start logs state was mid
    → IfErr r (λ e. IsFaultBehind Refused state ws e mid is)
    → IfErr r (λ e. IsIngestFault Stored Refused Honest start logs ws e was is)
behind_fault (Ok x) Stored Refused Honest start logs ws state was mid is s b = tt
behind_fault (Err e) Stored Refused Honest start logs ws state was mid is s
    (inl (fault, names, (after, refused), asked)) = inr (inr (inl (
      fault,
      names,
      record {
        before = state;
        after = after;
        mid = mid;
        started = s;
        refused = refused;
        asked = asked;
      },
    )))
behind_fault (Err e) Stored Refused Honest start logs ws state was mid is s
    (inr (names, (r, after, i))) = inr (inr (inr (
      names,
      (
        r,
        record {
          before = state;
          after = after;
          mid = mid;
          started = s;
          ingested = i;
        },
      ),
    )))

-- ---- opened quickly

usually : (Keeps : ℕ → List ℕ → Type 0) (Honest Kept : Type 0) (o : Options) (shape : Form)
    (logs : List FolderFile) (state : Held) (was mid : Told) → o ≡ usual
    → OpensQuickly Keeps Honest Kept o shape logs state was mid
    → OpensQuickly Keeps Honest Kept usual shape logs state was mid
usually Keeps Honest Kept o shape logs state was mid same q =
    subst (λ (x : Options). OpensQuickly Keeps Honest Kept x shape logs state was mid) same q

pub under_done : {T F : Type 0} (r : Result T F) (Keeps : ℕ → List ℕ → Type 0)
    (Honest Kept : Type 0) (o : Options) (shape : Form) (logs : List FolderFile) (ws : List Write)
    (state : Held) (was mid is : Told) (old new : Option (List ℕ)) → o ≡ usual
    → OpensQuickly Keeps Honest Kept o shape logs state was mid
    → OnOk r (IsBroughtBehind state ws mid is old new)
    → OnOk r (IsBroughtInUnder Keeps Honest Kept shape logs ws was is old new)
under_done (Ok x) Keeps Honest Kept o shape logs ws state was mid is old new same q b = record {
  state = state;
  mid = mid;
  opened = usually Keeps Honest Kept o shape logs state was mid same q;
  brought = b;
}
under_done (Err e) Keeps Honest Kept o shape logs ws state was mid is old new same q b = tt

pub under_fault : {T : Type 0} (r : Result T WriterFault) (Keeps : ℕ → List ℕ → Type 0)
    (Refused : Asked → ShelfFault → Type 0) (Honest Kept : Type 0) (o : Options) (shape : Form)
    (logs : List FolderFile) (ws : List Write) (state : Held) (was mid is : Told) → o ≡ usual
    → OpensQuickly Keeps Honest Kept o shape logs state was mid
    → IfErr r (λ e. IsFaultBehind Refused state ws e mid is)
    → IfErr r (λ e. IsFaultUnder Keeps Refused Honest Kept shape logs ws e was is)
under_fault (Ok x) Keeps Refused Honest Kept o shape logs ws state was mid is same q b = tt
under_fault (Err e) Keeps Refused Honest Kept o shape logs ws state was mid is same q b =
    inr (state, mid, usually Keeps Honest Kept o shape logs state was mid same q, b)

pub under_unopened : (Keeps : ℕ → List ℕ → Type 0) (Refused : Asked → ShelfFault → Type 0)
    (Honest Kept : Type 0) (o : Options) (shape : Form) (logs : List FolderFile) (ws : List Write)
    (e : WriterFault) (was is : Told) → o ≡ usual
    → IsNotOpenedQuickly Keeps Refused Honest o shape logs e was is
    → IsFaultUnder Keeps Refused Honest Kept shape logs ws e was is
under_unopened Keeps Refused Honest Kept o shape logs ws e was is same n = inl (subst
    (λ (x : Options). IsNotOpenedQuickly Keeps Refused Honest x shape logs e was is) same n)

-- of the shape that was read
pub quick_done : {T F : Type 0} (r : Result T F) (Keeps : ℕ → List ℕ → Type 0) (Honest : Type 0)
    (shape : Form) (logs : List FolderFile) (ws : List Write) (was is : Told)
    (old new : Option (List ℕ))
    → OnOk r (IsBroughtInUnder Keeps Honest (KeepsTables Keeps shape) shape logs ws was is old new)
    → OnOk r (IsBroughtInQuickly Keeps Honest logs ws was is old new)
quick_done (Ok x) Keeps Honest shape logs ws was is old new b = (shape, b)
quick_done (Err e) Keeps Honest shape logs ws was is old new b = tt

pub quick_fault : {T : Type 0} (r : Result T WriterFault) (Keeps : ℕ → List ℕ → Type 0)
    (Refused : Asked → ShelfFault → Type 0) (Honest : Type 0) (shape : Form)
    (logs : List FolderFile) (ws : List Write) (was is : Told)
    → IfErr r (λ e. IsFaultUnder Keeps Refused Honest (KeepsTables Keeps shape) shape logs ws e was
    is)
    → IfErr r (λ e. IsQuickFault Keeps Refused Honest logs ws e was is)
quick_fault (Ok x) Keeps Refused Honest shape logs ws was is b = tt
quick_fault (Err e) Keeps Refused Honest shape logs ws was is b = inr (inr (shape, b))
