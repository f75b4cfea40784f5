-- Where a program knows the tables.
use Rattle.std.proofs.Common.{◌≡◌, ◌∙◌, ℕ, List, Option, Result, Ok, Err, IfOk, IfErr, sym, subst}
use Rattle.lsm_manifest.specs.Shape.{Form}
use Rattle.lsm_shelf.specs.Asked.{Asked}
use Rattle.lsm_shelf.specs.declared.shelf_fault.ShelfFault.{ShelfFault}
use Rattle.lsm_shelf.specs.Told.{Told}
use Rattle.lsm_admission.specs.Answered.{Answers, IsAnswerRefusal}
use Rattle.lsm_admission.specs.Keeping.{KeepsTables}
use Rattle.lsm_admission.specs.KnownAnswers.{KnowsTables, KnownAnswers, KnownImage}
use Rattle.lsm_admission.specs.declared.answer_fault.AnswerFault.{AnswerFault}
use Rattle.lsm_admission.proofs.JudgedKept.{judged_kept}

pub known_kept : (images : ℕ → List ℕ) (shape : Form) → KnowsTables images shape
    → KeepsTables (KnownImage images) shape
known_kept images shape k = judged_kept (KnownImage images) shape k.version k.of_shape k.ages
    (λ n t image h kept size. kept ∙ k.known n t h)

known_answers : (images : ℕ → List ℕ) (user : List ℕ) (a : Option (List ℕ)) (was is : Told)
    → Answers (KnownImage images) (Unit {0}) user a was is → KnownAnswers images user a was is
known_answers images user a was is (shape, i) = (
  shape,
  record {
    held = i.held;
    version = i.version;
    rest = i.rest;
    next = i.next;
    limit = i.limit;
    admitted = i.admitted;
    of_shape = λ k. i.of_shape (tt, known_kept images shape k);
    sound = λ k. i.sound (tt, known_kept images shape k);
    answer = λ k. i.answer (tt, known_kept images shape k);
  },
)

-- ---- the shelf inside was told the same

pub moved_ok : {T : Type 0} (r : Result T AnswerFault) (view : T → Option (List ℕ))
    (images : ℕ → List ℕ) (user : List ℕ) (inner was mid is : Told) → inner ≡ was → is ≡ mid
    → IfOk r (λ a. Answers (KnownImage images) (Unit {0}) user (view a) inner mid)
    → IfOk r (λ a. KnownAnswers images user (view a) was is)
moved_ok (Ok a) view images user inner was mid is before after h =
    subst (λ (w : Told). KnownAnswers images user (view a) w is) before
    (subst (λ (i : Told). KnownAnswers images user (view a) inner i) (sym after)
    (known_answers images user (view a) inner mid h))
moved_ok (Err e) view images user inner was mid is before after h = tt

pub moved_err : {T : Type 0} (r : Result T AnswerFault) (images : ℕ → List ℕ)
    (Refused : Asked → ShelfFault → Type 0) (inner was mid is : Told) → inner ≡ was → is ≡ mid
    → IfErr r (λ e. IsAnswerRefusal (KnownImage images) Refused (Unit {0}) e inner mid)
    → IfErr r (λ e. IsAnswerRefusal (KnownImage images) Refused (Unit {0}) e was is)
moved_err (Ok a) images Refused inner was mid is before after h = tt
moved_err (Err e) images Refused inner was mid is before after h =
    subst (λ (w : Told). IsAnswerRefusal (KnownImage images) Refused (Unit {0}) e w is) before
    (subst (λ (i : Told). IsAnswerRefusal (KnownImage images) Refused (Unit {0}) e inner i)
    (sym after) h)
