-- What is written for an edit spells it.
use Rattle.std.proofs.Common.{◌≡◌, ℕ, ◌+◌, ◌-◌, ◌^◌, ◌<◌, ◌≤◌, List, [], ◌∷◌, ◌++◌, length, take, drop, map, get_or, Option, Some, None, Result, Ok, Err, refl, sym, ap, ◌∙◌, append_assoc, arith}
use Rattle.std.specs.Prelude.{OnOk}
use Rattle.std.proofs.lemmas.List.{append-nil, get_or_default, map_push, take_at, take_more, take-append-drop}
use Rattle.lsm_codec.specs.Varint.{IsVarint32, varint32, varint64}
use Rattle.lsm_codec.proofs.CallerLemmas.{is_shortest}
use Rattle.lsm_manifest.specs.declared.parts.CompactPointer.{CompactPointer}
use Rattle.lsm_manifest.specs.declared.parts.DeletedFile.{DeletedFile}
use Rattle.lsm_manifest.specs.declared.parts.AddedFile.{AddedFile}
use Rattle.lsm_manifest.specs.declared.edit.Edit.{Edit}
use Rattle.lsm_manifest.specs.Last.{last_by}
use Rattle.lsm_manifest.specs.Edit.{Field, Comparator, Log, Prev, Next, Last, Pointer, Deleted, Added, Both, NumberText, LevelText, BytesText, KeyText, tag_of, BodyText, FieldText, AreFields, all_values, edit_of, IsEdit}
use Rattle.lsm_manifest.specs.EditFit.{FitsKey}
use Rattle.lsm_manifest.specs.EditWriting.{bytes_text, body_text, field_text, fields_text, FitsField, FitNumbers, optional, pointer_field, deleted_field, added_field, fields_in, edit_text, AddsFields}
use Rattle.lsm_manifest.specs.DraftView.{with_field}
use Rattle.lsm_manifest.proofs.EditFold.{with_fields, edit_of-append}

short : (n : ℕ) → n < 2 ^ 32 → IsVarint32 (varint32 n) n
short n h = (is_shortest 5 (2 ^ 32 - 1) n (omega arith) (omega arith) (omega arith)).is

number : (n : ℕ) → n < 2 ^ 64 → NumberText n (varint64 n)
number n h = (is_shortest 10 (2 ^ 64 - 1) n (omega arith) (omega arith) (omega arith)).is

level : (n : ℕ) → n ≤ 6 → LevelText n (varint32 n)
level n h = record { is = short n (omega arith); fits = h }

bytes : (x : List ℕ) → length x < 2 ^ 32 → BytesText x (bytes_text x)
unfolding bytes_text
bytes x h = record { size_text = varint32 (length x); size_is = short (length x) h; own_is = refl }

key : (x : List ℕ) → FitsKey x → KeyText x (bytes_text x)
key x h = record { is = bytes x h.short; internal = h.internal }

both : {A B : Type 0} (T : A → List ℕ → Type 0) (U : B → List ℕ → Type 0) (x : A × B) (a b : List ℕ) → T x.0 a → U x.1 b → Both T U x (a ++ b)
both T U x a b t u = record { first = a; second = b; own_is = refl; first_is = t; second_is = u }

body : (f : Field) → FitsField f → FitNumbers f → BodyText f (body_text f)
unfolding body_text
body (Comparator x) h n = bytes x h
body (Log x) h n = number x n
body (Prev x) h n = number x n
body (Next x) h n = number x n
body (Last x) h n = number x n
body (Pointer x) h n = both LevelText KeyText x (varint32 x.0) (bytes_text x.1) (level x.0 h.0) (key x.1 h.1)
body (Deleted x) h n = both LevelText NumberText x (varint32 x.0) (varint64 x.1) (level x.0 h) (number x.1 n)
body (Added x) h n =
    let keys = both KeyText KeyText x.1.1.1 (bytes_text x.1.1.1.0) (bytes_text x.1.1.1.1) (key x.1.1.1.0 h.1) (key x.1.1.1.1 h.2) in
    let size = both NumberText (Both KeyText KeyText) x.1.1 (varint64 x.1.1.0) _ (number x.1.1.0 n.1) keys in
    let file = both NumberText (Both NumberText (Both KeyText KeyText)) x.1 (varint64 x.1.0) _ (number x.1.0 n.0) size in
    both LevelText (Both NumberText (Both NumberText (Both KeyText KeyText))) x (varint32 x.0) _ (level x.0 h.0) file

tag_fits : (f : Field) → tag_of f < 2 ^ 32
tag_fits (Comparator x) = omega arith
tag_fits (Log x) = omega arith
tag_fits (Prev x) = omega arith
tag_fits (Next x) = omega arith
tag_fits (Last x) = omega arith
tag_fits (Pointer x) = omega arith
tag_fits (Deleted x) = omega arith
tag_fits (Added x) = omega arith

pub field_written : (f : Field) → FitsField f → FitNumbers f → FieldText f (field_text f)
unfolding field_text
field_written f h n = record { tag_text = varint32 (tag_of f); body = body_text f; own_is = refl; tag_is = short (tag_of f) (tag_fits f); body_is = body f h n }

-- ---- fields after one another

pub fields_text-append : (fs gs : List Field) → fields_text (fs ++ gs) ≡ fields_text fs ++ fields_text gs
unfolding fields_text
fields_text-append [] gs = refl
fields_text-append (f ∷ fs) gs = ap (λ (x : List ℕ). field_text f ++ x) (fields_text-append fs gs) ∙ sym (append_assoc (field_text f) (fields_text fs) (fields_text gs))

AreFields-append : (fs gs : List Field) (a b : List ℕ) → AreFields fs a → AreFields gs b → AreFields (fs ++ gs) (a ++ b)
AreFields-append [] gs a b is more = rw is more
AreFields-append (f ∷ fs) gs a b (own, later, is, one, rest) more =
    (own, later ++ b, ap (λ (x : List ℕ). x ++ b) is ∙ append_assoc own later b, one, AreFields-append fs gs later b rest more)

pub adds_none : (old : List ℕ) → AddsFields old [] old
unfolding fields_text
adds_none old = record { bytes = sym (append-nil old); spelled = refl }

pub adds_more : (old : List ℕ) (fs : List Field) (mid : List ℕ) (gs : List Field) (new : List ℕ) → AddsFields old fs mid → AddsFields mid gs new → AddsFields old (fs ++ gs) new
adds_more old fs mid gs new a b =
    let both_text = fields_text-append fs gs in
    record {
      bytes = b.bytes ∙ ap (λ (x : List ℕ). x ++ fields_text gs) a.bytes ∙ append_assoc old (fields_text fs) (fields_text gs) ∙ ap (λ (x : List ℕ). old ++ x) (sym both_text);
      spelled = rw both_text (AreFields-append fs gs (fields_text fs) (fields_text gs) a.spelled b.spelled);
    }

pub adds_one : (old : List ℕ) (f : Field) (new : List ℕ) → new ≡ old ++ field_text f → FieldText f (field_text f) → AddsFields old (f ∷ []) new
unfolding fields_text
adds_one old f new e t =
    let n = append-nil (field_text f) in
    record { bytes = rw n e; spelled = (field_text f, [], refl, t, refl) }

pub adds_next : {A : Type 0} (make : A → Field) (old : List ℕ) (xs : List A) (i : ℕ) (x : A) (out new : List ℕ) → i < length xs → x ≡ get_or xs i x → AddsFields old (map make (take i xs)) out
    → new ≡ out ++ field_text (make x) → FieldText (make x) (field_text (make x)) → AddsFields old (map make (take (i + 1) xs)) new
adds_next {A} make old xs i x out new lt at a e t =
    let grows : take (i + 1) xs ≡ take i xs ++ x ∷ [] = take_more xs i x lt ∙ ap (λ (y : A). take i xs ++ y ∷ []) (sym at) in
    let mapped : map make (take (i + 1) xs) ≡ map make (take i xs) ++ make x ∷ [] = ap (map make) grows ∙ map_push make (take i xs) x in
    rw mapped (adds_more old (map make (take i xs)) out (make x ∷ []) new a (adds_one out (make x) new e t))

pub adds_at : {A : Type 0} (make : A → Field) (old : List ℕ) (xs : List A) (i : ℕ) (d : A) (out new : List ℕ) → i < length xs → AddsFields old (map make (take i xs)) out
    → new ≡ out ++ field_text (make (get_or xs i d)) → FieldText (make (get_or xs i d)) (field_text (make (get_or xs i d))) → AddsFields old (map make (take (i + 1) xs)) new
adds_at {A} make old xs i d out new lt a e t =
    adds_next make old xs i (get_or xs i d) out new lt (get_or_default xs i d (get_or xs i d) lt) a e t

-- what was there stays in front
pub adds_front : (old : List ℕ) (fs : List Field) (mid new : List ℕ) (n m : ℕ) → n ≡ length old → m ≡ length mid → AddsFields old fs mid → take m new ≡ mid → take n new ≡ old
adds_front old fs mid new n m n_is m_is a e =
    let later = drop m new in
    let parts : new ≡ mid ++ later = sym (take-append-drop m new) ∙ ap (λ (x : List ℕ). x ++ later) e in
    let whole : new ≡ old ++ (fields_text fs ++ later) = parts ∙ ap (λ (x : List ℕ). x ++ later) a.bytes ∙ append_assoc old (fields_text fs) later in
    ap (take n) whole ∙ take_at old (fields_text fs ++ later) n (sym n_is)

-- the same where the last call was Ok
pub ok_one : {T E : Type 0} (r : Result T E) (old : List ℕ) (f : Field) (new : List ℕ) → OnOk r (new ≡ old ++ field_text f) → OnOk r (FieldText f (field_text f)) → OnOk r (AddsFields old (f ∷ []) new)
ok_one (Ok x) old f new e t = adds_one old f new e t
ok_one (Err d) old f new e t = tt

pub ok_more : {T E : Type 0} (r : Result T E) (old : List ℕ) (fs : List Field) (mid : List ℕ) (gs : List Field) (new : List ℕ) → AddsFields old fs mid → OnOk r (AddsFields mid gs new) → OnOk r (AddsFields old (fs ++ gs) new)
ok_more (Ok x) old fs mid gs new a b = adds_more old fs mid gs new a b
ok_more (Err d) old fs mid gs new a b = tt

-- ---- the fields of an edit

with_pointers : (e : Edit) (ps : List CompactPointer) → with_fields e (map pointer_field ps) ≡ record e { pointers = e.pointers ++ ps }
unfolding with_fields
with_pointers e [] = let n = append-nil e.pointers in rw n refl
with_pointers e (p ∷ ps) = let n = append_assoc e.pointers (p ∷ []) ps in with_pointers (record e { pointers = e.pointers ++ p ∷ [] }) ps ∙ rw n refl

with_deleted : (e : Edit) (ds : List DeletedFile) → with_fields e (map deleted_field ds) ≡ record e { deleted = e.deleted ++ ds }
unfolding with_fields
with_deleted e [] = let n = append-nil e.deleted in rw n refl
with_deleted e (d ∷ ds) = let n = append_assoc e.deleted (d ∷ []) ds in with_deleted (record e { deleted = e.deleted ++ d ∷ [] }) ds ∙ rw n refl

with_added : (e : Edit) (xs : List AddedFile) → with_fields e (map added_field xs) ≡ record e { added = e.added ++ xs }
unfolding with_fields
with_added e [] = let n = append-nil e.added in rw n refl
with_added e (x ∷ xs) = let n = append_assoc e.added (x ∷ []) xs in with_added (record e { added = e.added ++ x ∷ [] }) xs ∙ rw n refl

with_fields-append : (e : Edit) (fs gs : List Field) → with_fields e (fs ++ gs) ≡ with_fields (with_fields e fs) gs
unfolding with_fields
with_fields-append e [] gs = refl
with_fields-append e (f ∷ fs) gs = with_fields-append (with_field e f) fs gs

abbrev nothing : Edit
nothing = edit_of []

abbrev head : Option (List ℕ) → Option ℕ → Option ℕ → Option ℕ → Option ℕ → Edit
head c a p n l = record { comparator = c; log = a; prev_log = p; next = n; last = l; pointers = []; deleted = []; added = [] }

with_comparator : (o : Option (List ℕ)) → with_fields (head None None None None None) (optional Comparator o) ≡ head o None None None None
unfolding with_fields
with_comparator None = refl
with_comparator (Some x) = refl

with_log : (c : Option (List ℕ)) (o : Option ℕ) → with_fields (head c None None None None) (optional Log o) ≡ head c o None None None
unfolding with_fields
with_log c None = refl
with_log c (Some x) = refl

with_prev : (c : Option (List ℕ)) (a o : Option ℕ) → with_fields (head c a None None None) (optional Prev o) ≡ head c a o None None
unfolding with_fields
with_prev c a None = refl
with_prev c a (Some x) = refl

with_next : (c : Option (List ℕ)) (a p o : Option ℕ) → with_fields (head c a p None None) (optional Next o) ≡ head c a p o None
unfolding with_fields
with_next c a p None = refl
with_next c a p (Some x) = refl

with_last : (c : Option (List ℕ)) (a p n o : Option ℕ) → with_fields (head c a p n None) (optional Last o) ≡ head c a p n o
unfolding with_fields
with_last c a p n None = refl
with_last c a p n (Some x) = refl

edit_of-none : edit_of [] ≡ head None None None None None
unfolding last_by all_values
edit_of-none = refl

-- one more part of an edit's fields
then_part : (e f g : Edit) (own later : List Field) → with_fields e own ≡ f → with_fields f later ≡ g → with_fields e (own ++ later) ≡ g
then_part e f g own later one more = with_fields-append e own later ∙ ap (λ (x : Edit). with_fields x later) one ∙ more

pub edit_of-fields_in : (e : Edit) → edit_of (fields_in e) ≡ e
edit_of-fields_in e =
    edit_of-append [] (fields_in e) ∙ ap (λ (x : Edit). with_fields x (fields_in e)) edit_of-none
    ∙ then_part _ _ _ (optional Comparator e.comparator) _ (with_comparator e.comparator)
    (then_part _ _ _ (optional Log e.log) _ (with_log e.comparator e.log)
    (then_part _ _ _ (optional Prev e.prev_log) _ (with_prev e.comparator e.log e.prev_log)
    (then_part _ _ _ (optional Next e.next) _ (with_next e.comparator e.log e.prev_log e.next)
    (then_part _ _ _ (optional Last e.last) _ (with_last e.comparator e.log e.prev_log e.next e.last)
    (then_part _ _ _ (map pointer_field e.pointers) _ (with_pointers (head e.comparator e.log e.prev_log e.next e.last) e.pointers)
    (then_part _ _ _ (map deleted_field e.deleted) _ (with_deleted (record (head e.comparator e.log e.prev_log e.next e.last) { pointers = e.pointers }) e.deleted)
    (with_added (record (head e.comparator e.log e.prev_log e.next e.last) { pointers = e.pointers; deleted = e.deleted }) e.added)))))))

pub edit_written : (e : Edit) → AreFields (fields_in e) (fields_text (fields_in e)) → IsEdit (edit_text e) e
unfolding edit_text
edit_written e is = record { fields = fields_in e; spelled = is; edit_is = sym (edit_of-fields_in e) }
