-- The edit that fields come to, field by field.
use Rattle.std.proofs.Common.{◌≡◌, List, [], ◌∷◌, ◌++◌, Option, Some, None, refl, sym, ap, ◌∙◌, append_assoc}
use Rattle.std.specs.Option.{option_or}
use Rattle.std.specs.List.{cons_option}
use Rattle.std.proofs.lemmas.List.{append-nil}
use Rattle.std.proofs.lemmas.List.Elements.{filter_map-append}
use Rattle.lsm_manifest.specs.Last.{last_by}
use Rattle.lsm_manifest.proofs.LastLaws.{last_by-push}
use Rattle.lsm_manifest.specs.Edit.{Field, Comparator, Log, Prev, Next, Last, Pointer, Deleted, Added, comparator_of, log_of, prev_of, next_of, last_of, pointer_of, deleted_of, added_of, all_values, edit_of}
use Rattle.lsm_manifest.specs.declared.edit.Edit.{Edit}
use Rattle.lsm_manifest.specs.DraftView.{with_field}

value_stays : {A : Type 0} (pick : Field → Option A) (fs : List Field) (f : Field) → pick f ≡ None → last_by pick (fs ++ f ∷ []) ≡ last_by pick fs
value_stays {A} pick fs f e = last_by-push pick fs f ∙ ap (λ (x : Option A). option_or x (last_by pick fs)) e

value_set : {A : Type 0} (pick : Field → Option A) (fs : List Field) (f : Field) (x : A) → pick f ≡ Some x → last_by pick (fs ++ f ∷ []) ≡ Some x
value_set {A} pick fs f x e = last_by-push pick fs f ∙ ap (λ (y : Option A). option_or y (last_by pick fs)) e

all_values-push : {A : Type 0} (pick : Field → Option A) (fs : List Field) (f : Field) → all_values pick (fs ++ f ∷ []) ≡ all_values pick fs ++ cons_option (pick f) []
unfolding all_values
all_values-push pick fs f = filter_map-append pick fs (f ∷ [])

list_stays : {A : Type 0} (pick : Field → Option A) (fs : List Field) (f : Field) → pick f ≡ None → all_values pick (fs ++ f ∷ []) ≡ all_values pick fs
list_stays {A} pick fs f e = all_values-push pick fs f ∙ ap (λ (x : Option A). all_values pick fs ++ cons_option x []) e ∙ append-nil (all_values pick fs)

list_grows : {A : Type 0} (pick : Field → Option A) (fs : List Field) (f : Field) (x : A) → pick f ≡ Some x → all_values pick (fs ++ f ∷ []) ≡ all_values pick fs ++ x ∷ []
list_grows {A} pick fs f x e = all_values-push pick fs f ∙ ap (λ (y : Option A). all_values pick fs ++ cons_option y []) e

pub edit_of-push : (fs : List Field) (f : Field) → edit_of (fs ++ f ∷ []) ≡ with_field (edit_of fs) f
edit_of-push fs (Comparator x) =
    let e0 = value_set comparator_of fs (Comparator x) _ refl in
    let e1 = value_stays log_of fs (Comparator x) refl in
    let e2 = value_stays prev_of fs (Comparator x) refl in
    let e3 = value_stays next_of fs (Comparator x) refl in
    let e4 = value_stays last_of fs (Comparator x) refl in
    let e5 = list_stays pointer_of fs (Comparator x) refl in
    let e6 = list_stays deleted_of fs (Comparator x) refl in
    let e7 = list_stays added_of fs (Comparator x) refl in
    rw (e0, e1, e2, e3, e4, e5, e6, e7) refl
edit_of-push fs (Log x) =
    let e0 = value_stays comparator_of fs (Log x) refl in
    let e1 = value_set log_of fs (Log x) _ refl in
    let e2 = value_stays prev_of fs (Log x) refl in
    let e3 = value_stays next_of fs (Log x) refl in
    let e4 = value_stays last_of fs (Log x) refl in
    let e5 = list_stays pointer_of fs (Log x) refl in
    let e6 = list_stays deleted_of fs (Log x) refl in
    let e7 = list_stays added_of fs (Log x) refl in
    rw (e0, e1, e2, e3, e4, e5, e6, e7) refl
edit_of-push fs (Prev x) =
    let e0 = value_stays comparator_of fs (Prev x) refl in
    let e1 = value_stays log_of fs (Prev x) refl in
    let e2 = value_set prev_of fs (Prev x) _ refl in
    let e3 = value_stays next_of fs (Prev x) refl in
    let e4 = value_stays last_of fs (Prev x) refl in
    let e5 = list_stays pointer_of fs (Prev x) refl in
    let e6 = list_stays deleted_of fs (Prev x) refl in
    let e7 = list_stays added_of fs (Prev x) refl in
    rw (e0, e1, e2, e3, e4, e5, e6, e7) refl
edit_of-push fs (Next x) =
    let e0 = value_stays comparator_of fs (Next x) refl in
    let e1 = value_stays log_of fs (Next x) refl in
    let e2 = value_stays prev_of fs (Next x) refl in
    let e3 = value_set next_of fs (Next x) _ refl in
    let e4 = value_stays last_of fs (Next x) refl in
    let e5 = list_stays pointer_of fs (Next x) refl in
    let e6 = list_stays deleted_of fs (Next x) refl in
    let e7 = list_stays added_of fs (Next x) refl in
    rw (e0, e1, e2, e3, e4, e5, e6, e7) refl
edit_of-push fs (Last x) =
    let e0 = value_stays comparator_of fs (Last x) refl in
    let e1 = value_stays log_of fs (Last x) refl in
    let e2 = value_stays prev_of fs (Last x) refl in
    let e3 = value_stays next_of fs (Last x) refl in
    let e4 = value_set last_of fs (Last x) _ refl in
    let e5 = list_stays pointer_of fs (Last x) refl in
    let e6 = list_stays deleted_of fs (Last x) refl in
    let e7 = list_stays added_of fs (Last x) refl in
    rw (e0, e1, e2, e3, e4, e5, e6, e7) refl
edit_of-push fs (Pointer x) =
    let e0 = value_stays comparator_of fs (Pointer x) refl in
    let e1 = value_stays log_of fs (Pointer x) refl in
    let e2 = value_stays prev_of fs (Pointer x) refl in
    let e3 = value_stays next_of fs (Pointer x) refl in
    let e4 = value_stays last_of fs (Pointer x) refl in
    let e5 = list_grows pointer_of fs (Pointer x) _ refl in
    let e6 = list_stays deleted_of fs (Pointer x) refl in
    let e7 = list_stays added_of fs (Pointer x) refl in
    rw (e0, e1, e2, e3, e4, e5, e6, e7) refl
edit_of-push fs (Deleted x) =
    let e0 = value_stays comparator_of fs (Deleted x) refl in
    let e1 = value_stays log_of fs (Deleted x) refl in
    let e2 = value_stays prev_of fs (Deleted x) refl in
    let e3 = value_stays next_of fs (Deleted x) refl in
    let e4 = value_stays last_of fs (Deleted x) refl in
    let e5 = list_stays pointer_of fs (Deleted x) refl in
    let e6 = list_grows deleted_of fs (Deleted x) _ refl in
    let e7 = list_stays added_of fs (Deleted x) refl in
    rw (e0, e1, e2, e3, e4, e5, e6, e7) refl
edit_of-push fs (Added x) =
    let e0 = value_stays comparator_of fs (Added x) refl in
    let e1 = value_stays log_of fs (Added x) refl in
    let e2 = value_stays prev_of fs (Added x) refl in
    let e3 = value_stays next_of fs (Added x) refl in
    let e4 = value_stays last_of fs (Added x) refl in
    let e5 = list_stays pointer_of fs (Added x) refl in
    let e6 = list_stays deleted_of fs (Added x) refl in
    let e7 = list_grows added_of fs (Added x) _ refl in
    rw (e0, e1, e2, e3, e4, e5, e6, e7) refl

-- fields after one another
unfoldable pub with_fields : Edit → List Field → Edit
with_fields e [] = e
with_fields e (f ∷ fs) = with_fields (with_field e f) fs

pub edit_of-append : (fs gs : List Field) → edit_of (fs ++ gs) ≡ with_fields (edit_of fs) gs
unfolding with_fields
edit_of-append fs [] = ap edit_of (append-nil fs)
edit_of-append fs (g ∷ gs) = ap edit_of (sym (append_assoc fs (g ∷ []) gs)) ∙ edit_of-append (fs ++ g ∷ []) gs ∙ ap (λ (e : Edit). with_fields e gs) (edit_of-push fs g)
