-- What is spelled as an edit has levels to 6, internal keys, and lengths of 32 bits.
use Rattle.std.proofs.Common.{ℕ, ◌^◌, ◌<◌, List, [], ◌∷◌, length, Option, Some, None, arith, sym, subst}
use Rattle.std.specs.Prelude.{IfSome}
use Rattle.std.specs.List.{All, cons_option}
use Rattle.std.specs.Option.{option_or}
use Rattle.std.proofs.lemmas.List.Elements.{All-nil, All-cons}
use Rattle.lsm_manifest.specs.declared.edit.Edit.{Edit}
use Rattle.lsm_manifest.specs.Last.{last_by}
use Rattle.lsm_manifest.specs.Edit.{Field, Comparator, Log, Prev, Next, Last, Pointer, Deleted, Added, KeyText, FieldText, AreFields, comparator_of, pointer_of, deleted_of, added_of, all_values, edit_of, IsEdit}
use Rattle.lsm_manifest.specs.EditFit.{FitsKey, FitsPointer, FitsDeleted, FitsAdded, IsFit}

fits_key : (key own : List ℕ) → KeyText key own → FitsKey key
fits_key key own t = record { short = omega (arith, t.is.size_is.fits); internal = t.internal }

cons_fits : {A : Type 0} (P : A → Type 0) (o : Option A) (xs : List A) → IfSome o P → All P xs → All P (cons_option o xs)
cons_fits P None xs h all = all
cons_fits P (Some x) xs h all = All-cons P x xs h all

all_fit : {A : Type 0} (pick : Field → Option A) (P : A → Type 0) → ((f : Field) (own : List ℕ) → FieldText f own → IfSome (pick f) P) → (fs : List Field) (text : List ℕ) → AreFields fs text → All P (all_values pick fs)
unfolding all_values
all_fit pick P one [] text is = All-nil P
all_fit pick P one (f ∷ fs) text (own, later, is, first, more) = cons_fits P (pick f) (all_values pick fs) (one f own first) (all_fit pick P one fs later more)

or_fits : {A : Type 0} (P : A → Type 0) (a b : Option A) → IfSome a P → IfSome b P → IfSome (option_or a b) P
or_fits P None b h k = k
or_fits P (Some x) b h k = h

last_fits : {A : Type 0} (pick : Field → Option A) (P : A → Type 0) → ((f : Field) (own : List ℕ) → FieldText f own → IfSome (pick f) P) → (fs : List Field) (text : List ℕ) → AreFields fs text → IfSome (last_by pick fs) P
unfolding last_by
last_fits pick P one [] text is = tt
last_fits pick P one (f ∷ fs) text (own, later, is, first, more) = or_fits P (last_by pick fs) (pick f) (last_fits pick P one fs later more) (one f own first)

comparator_fits : (f : Field) (own : List ℕ) → FieldText f own → IfSome (comparator_of f) (λ name. length name < 2 ^ 32)
comparator_fits (Comparator x) own t = omega (arith, t.body_is.size_is.fits)
comparator_fits (Log x) own t = tt
comparator_fits (Prev x) own t = tt
comparator_fits (Next x) own t = tt
comparator_fits (Last x) own t = tt
comparator_fits (Pointer x) own t = tt
comparator_fits (Deleted x) own t = tt
comparator_fits (Added x) own t = tt

pointer_fits : (f : Field) (own : List ℕ) → FieldText f own → IfSome (pointer_of f) FitsPointer
pointer_fits (Comparator x) own t = tt
pointer_fits (Log x) own t = tt
pointer_fits (Prev x) own t = tt
pointer_fits (Next x) own t = tt
pointer_fits (Last x) own t = tt
pointer_fits (Pointer x) own t = (t.body_is.first_is.fits, fits_key x.1 t.body_is.second t.body_is.second_is)
pointer_fits (Deleted x) own t = tt
pointer_fits (Added x) own t = tt

deleted_fits : (f : Field) (own : List ℕ) → FieldText f own → IfSome (deleted_of f) FitsDeleted
deleted_fits (Comparator x) own t = tt
deleted_fits (Log x) own t = tt
deleted_fits (Prev x) own t = tt
deleted_fits (Next x) own t = tt
deleted_fits (Last x) own t = tt
deleted_fits (Pointer x) own t = tt
deleted_fits (Deleted x) own t = t.body_is.first_is.fits
deleted_fits (Added x) own t = tt

added_fits : (f : Field) (own : List ℕ) → FieldText f own → IfSome (added_of f) FitsAdded
added_fits (Comparator x) own t = tt
added_fits (Log x) own t = tt
added_fits (Prev x) own t = tt
added_fits (Next x) own t = tt
added_fits (Last x) own t = tt
added_fits (Pointer x) own t = tt
added_fits (Deleted x) own t = tt
added_fits (Added x) own t =
    let keys = t.body_is.second_is.second_is.second_is in
    (t.body_is.first_is.fits, fits_key x.1.1.1.0 keys.first keys.first_is, fits_key x.1.1.1.1 keys.second keys.second_is)

pub fields_fit : (fs : List Field) (text : List ℕ) → AreFields fs text → IsFit (edit_of fs)
fields_fit fs text is = record {
  comparator = last_fits comparator_of (λ name. length name < 2 ^ 32) comparator_fits fs text is;
  pointers = all_fit pointer_of FitsPointer pointer_fits fs text is;
  deleted = all_fit deleted_of FitsDeleted deleted_fits fs text is;
  added = all_fit added_of FitsAdded added_fits fs text is;
}

pub edit_fits : (bytes : List ℕ) (edit : Edit) → IsEdit bytes edit → IsFit edit
edit_fits bytes edit is = subst IsFit (sym is.edit_is) (fields_fit is.fields bytes is.spelled)
