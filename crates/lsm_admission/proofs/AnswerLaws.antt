-- What is answered, and why it is not.
use Rattle.std.proofs.Common.{◌≡◌, ℕ, List, Ok, Err, Result, Option, IfOk, IfErr, ◌∙◌, subst}
use Rattle.lsm_codec.specs.Entries.{answer}
use Rattle.lsm_manifest.specs.Shape.{Form}
use Rattle.lsm_model.specs.Files.{all_entries}
use Rattle.lsm_reader.specs.Refusals.{IsSomeReadRefusal}
use Rattle.lsm_shelf.specs.Asked.{Asked}
use Rattle.lsm_shelf.specs.declared.shelf_fault.ShelfFault.{ShelfFault}
use Rattle.lsm_shelf.specs.Told.{Told, Becomes}
use Rattle.lsm_table.proofs.CallerLemmas.{becomes_then}
use Rattle.lsm_table.specs.ReadFault.{IsMemoryOrShelf}
use Rattle.lsm_table.specs.declared.read_fault.ReadFault.{ReadFault}
use Rattle.lsm_version.specs.Versions.{IsSound, Levels, files}
use Rattle.lsm_journal.specs.HeldManifest.{HeldManifest}
use Rattle.lsm_admission.specs.Admitted.{IsAdmitted}
use Rattle.lsm_admission.specs.Answered.{Answers, IsAnswered, IsAnswerRefusal, IsRefusedOf}
use Rattle.lsm_admission.specs.Answered.{IsUnread}
use Rattle.lsm_admission.specs.Keeping.{KeepsTables}
use Rattle.lsm_admission.specs.declared.answer_fault.AnswerFault.{AnswerFault}
use Rattle.lsm_admission.specs.declared.answer_fault.AnswerFault.TheVariants.{Open, Read}
use Rattle.lsm_admission.proofs.Kept.{kept_of_shape}
use Rattle.lsm_journal.specs.declared.manifest_limit.ManifestLimit.{ManifestLimit}

-- it was admitted, at a later moment too
later : (Keeps : ℕ → List ℕ → Type 0) (shape : Form) (limit : ManifestLimit) (h : HeldManifest) (v : Levels)
    (rest next : ℕ) (was mid is : Told) → IsAdmitted Keeps shape limit h v rest next was mid
    → Becomes mid is → IsAdmitted Keeps shape limit h v rest next was is
later Keeps shape limit h v rest next was mid is a same = record {
  listed = a.listed;
  recovered = a.recovered;
  found = a.found;
  limit_is = a.limit_is;
  least = a.least;
  fits = a.fits;
  told = becomes_then _ mid is a.told same;
}

-- the read of a version that was admitted
pub answered : (Keeps : ℕ → List ℕ → Type 0) (Kept : Type 0) (shape : Form) (limit : ManifestLimit)
    (h : HeldManifest) (v : Levels) (rest next : ℕ) (was mid is : Told) (user : List ℕ)
    (a : Option (List ℕ)) (seq : ℕ)
    → IsAdmitted Keeps shape limit h v rest next was mid → Becomes mid is
    → (Kept → KeepsTables Keeps shape) → (Kept → IsSound v) → seq ≡ v.last
    → (Kept → a ≡ answer (all_entries (files v)) user seq)
    → IsAnswered Keeps Kept shape user a was is
answered Keeps Kept shape limit h v rest next was mid is user a seq admitted same kept sound last
    says = record {
      held = h;
      version = v;
      rest = rest;
      next = next;
      limit = limit;
      admitted = later Keeps shape limit h v rest next was mid is admitted same;
      of_shape = λ k. kept_of_shape Keeps shape v (kept k) admitted.found;
      sound = sound;
      answer = λ k. subst (λ (n : ℕ). a ≡ answer (all_entries (files v)) user n) (last
          ∙ admitted.found.last) (says k);
    }

pub unread : (Keeps : ℕ → List ℕ → Type 0) (Refused : Asked → ShelfFault → Type 0) (Kept : Type 0)
    (shape : Form) (limit : ManifestLimit) (h : HeldManifest) (v : Levels) (rest next : ℕ) (was mid is : Told)
    (fault : ReadFault)
    → IsAdmitted Keeps shape limit h v rest next was mid → Becomes mid is
    → IsSomeReadRefusal Refused fault → (Kept → IsMemoryOrShelf fault)
    → IsUnread Keeps Refused Kept shape fault was is
unread Keeps Refused Kept shape limit h v rest next was mid is fault admitted same asked sound =
    record {
      held = h;
      version = v;
      rest = rest;
      next = next;
      limit = limit;
      admitted = later Keeps shape limit h v rest next was mid is admitted same;
      asked = asked;
      sound = sound;
    }

-- ---- the shape that was read

pub from_shape : {T : Type 0} (r : Result T AnswerFault) (view : T → Option (List ℕ)) (Keeps : ℕ
    → List ℕ → Type 0) (Honest : Type 0) (shape : Form) (user : List ℕ) (was is : Told)
    → IfOk r (λ a. IsAnswered Keeps (Honest × KeepsTables Keeps shape) shape user (view a) was is)
    → IfOk r (λ a. Answers Keeps Honest user (view a) was is)
from_shape (Ok a) view Keeps Honest shape user was is h = (shape, h)
from_shape (Err e) view Keeps Honest shape user was is h = tt

fault_from : (e : AnswerFault) (Keeps : ℕ → List ℕ → Type 0) (Refused : Asked → ShelfFault
    → Type 0) (Honest : Type 0) (shape : Form) (was is : Told)
    → IsRefusedOf Keeps Refused (Honest × KeepsTables Keeps shape) shape e was is
    → IsAnswerRefusal Keeps Refused Honest e was is
fault_from (Open e) Keeps Refused Honest shape was is h = h
fault_from (Read e) Keeps Refused Honest shape was is h = (shape, h)

pub refused_from : {T : Type 0} (r : Result T AnswerFault) (Keeps : ℕ → List ℕ → Type 0)
    (Refused : Asked → ShelfFault → Type 0) (Honest : Type 0) (shape : Form) (was is : Told)
    → IfErr r (λ e. IsRefusedOf Keeps Refused (Honest × KeepsTables Keeps shape) shape e was is)
    → IfErr r (λ e. IsAnswerRefusal Keeps Refused Honest e was is)
refused_from (Ok a) Keeps Refused Honest shape was is h = tt
refused_from (Err e) Keeps Refused Honest shape was is h = fault_from e Keeps Refused Honest shape
    was is h
