-- What is spelled as an edit is read as one: of lists, as that of a log is.
use Rattle.std.proofs.Common.{◌≡◌, ℕ, zero, suc, ◌+◌, ◌-◌, ◌^◌, ◌<◌, ◌≤◌, true, leb, List, [], ◌∷◌, ◌++◌, length, take, drop, Result, Ok, refl, sym, ap, ◌∙◌, append_assoc, arith}
use Rattle.std.proofs.lemmas.Bool.{le-leb}
use Rattle.std.proofs.lemmas.List.{take_at, drop_at, length-append}
use Rattle.lsm_codec.specs.Varint.{AreGroups, IsVarint32}
use Rattle.lsm_codec.proofs.CallerLemmas.{varint_again}
use Rattle.lsm_manifest.specs.declared.edit_fault.EditFault.{EditFault}
use Rattle.lsm_manifest.specs.Edit.{Field, Comparator, Log, Prev, Next, Last, Pointer, Deleted, Added, Both, NumberText, LevelText, BytesText, KeyText, tag_of, BodyText, FieldText, AreFields, IsEdit}
use Rattle.lsm_manifest.specs.EditFit.{Change}
use Rattle.lsm_manifest.specs.EditReading.{Read, or_cut, short_number_at, number_at, level_at, bytes_at, key_at, both_at, pointer_at, deleted_at, keys_at, size_keys_at, file_at, added_at, body_at, field_at, fields_at, with_edit, edit_at}

-- the reader finds what is spelled, and what follows it
abbrev Reads : {A : Type 0} → (List ℕ → Read A) → (A → List ℕ → Type 0) → Type 0
Reads {A} p T = (x : A) (own rest : List ℕ) → T x own → p (own ++ rest) ≡ Ok (x, rest)

-- ---- numbers, bytes and keys

abbrev ShortText : ℕ → List ℕ → Type 0
ShortText n own = IsVarint32 own n

short_again : (x : ℕ) (own rest : List ℕ) → ShortText x own → short_number_at (own ++ rest) ≡ Ok (x, rest)
unfolding short_number_at
short_again x own rest t = (let v = varint_again 5 (2 ^ 32 - 1) own rest x t in ap or_cut v)

number_again : (x : ℕ) (own rest : List ℕ) → NumberText x own → number_at (own ++ rest) ≡ Ok (x, rest)
unfolding number_at
number_again x own rest t = (let v = varint_again 10 (2 ^ 64 - 1) own rest x t in ap or_cut v)

level_again : (x : ℕ) (own rest : List ℕ) → LevelText x own → level_at (own ++ rest) ≡ Ok (x, rest)
unfolding level_at
level_again x own rest t =
    let n = short_again x own rest t.is in
    let yes = le-leb x 6 t.fits in
    rw (n, yes) refl

bytes_again : (x own rest : List ℕ) → BytesText x own → bytes_at (own ++ rest) ≡ Ok (x, rest)
unfolding bytes_at
bytes_again x own rest t =
    let same : own ++ rest ≡ t.size_text ++ (x ++ rest) = ap (λ (y : List ℕ). y ++ rest) t.own_is ∙ append_assoc t.size_text x rest in
    let n = short_again (length x) t.size_text (x ++ rest) t.size_is in
    let yes : leb (length x) (length (x ++ rest)) ≡ true = le-leb _ _ (omega (arith, length-append x rest)) in
    let f : take (length x) (x ++ rest) ≡ x = take_at x rest (length x) refl in
    let d : drop (length x) (x ++ rest) ≡ rest = drop_at x rest (length x) refl in
    ap bytes_at same ∙ rw (n, yes, f, d) refl

key_again : (x own rest : List ℕ) → KeyText x own → key_at (own ++ rest) ≡ Ok (x, rest)
unfolding key_at
key_again x own rest t =
    let n = bytes_again x own rest t.is in
    let yes = t.internal in
    rw (n, yes) refl

-- one after the other
both : {A B : Type 0} (p : List ℕ → Read A) (q : List ℕ → Read B) (T : A → List ℕ → Type 0) (U : B → List ℕ → Type 0) → Reads p T → Reads q U → Reads (both_at p q) (Both T U)
both p q T U a b x own rest t =
    let same : own ++ rest ≡ t.first ++ (t.second ++ rest) = ap (λ (y : List ℕ). y ++ rest) t.own_is ∙ append_assoc t.first t.second rest in
    let one = a x.0 t.first (t.second ++ rest) t.first_is in
    let two = b x.1 t.second rest t.second_is in
    ap (both_at p q) same ∙ rw (one, two) refl

pointer : Reads pointer_at (Both LevelText KeyText)
unfolding pointer_at
pointer = both level_at key_at LevelText KeyText level_again key_again

deleted : Reads deleted_at (Both LevelText NumberText)
unfolding deleted_at
deleted = both level_at number_at LevelText NumberText level_again number_again

keys : Reads keys_at (Both KeyText KeyText)
unfolding keys_at
keys = both key_at key_at KeyText KeyText key_again key_again

size_keys : Reads size_keys_at (Both NumberText (Both KeyText KeyText))
unfolding size_keys_at
size_keys = both number_at keys_at NumberText (Both KeyText KeyText) number_again keys

file : Reads file_at (Both NumberText (Both NumberText (Both KeyText KeyText)))
unfolding file_at
file = both number_at size_keys_at NumberText (Both NumberText (Both KeyText KeyText)) number_again size_keys

added : Reads added_at (Both LevelText (Both NumberText (Both NumberText (Both KeyText KeyText))))
unfolding added_at
added = both level_at file_at LevelText (Both NumberText (Both NumberText (Both KeyText KeyText))) level_again file

-- ---- fields

body_again : (f : Field) (own rest : List ℕ) → BodyText f own → body_at (tag_of f) (own ++ rest) ≡ Ok (f, rest)
unfolding body_at
body_again (Comparator x) own rest t = let a = bytes_again x own rest t in rw a refl
body_again (Log x) own rest t = let a = number_again x own rest t in rw a refl
body_again (Prev x) own rest t = let a = number_again x own rest t in rw a refl
body_again (Next x) own rest t = let a = number_again x own rest t in rw a refl
body_again (Last x) own rest t = let a = number_again x own rest t in rw a refl
body_again (Pointer x) own rest t = let a = pointer x own rest t in rw a refl
body_again (Deleted x) own rest t = let a = deleted x own rest t in rw a refl
body_again (Added x) own rest t = let a = added x own rest t in rw a refl

field_again : (f : Field) (own rest : List ℕ) → FieldText f own → field_at (own ++ rest) ≡ Ok (f, rest)
unfolding field_at
field_again f own rest t =
    let same : own ++ rest ≡ t.tag_text ++ (t.body ++ rest) = ap (λ (y : List ℕ). y ++ rest) t.own_is ∙ append_assoc t.tag_text t.body rest in
    let n = short_again (tag_of f) t.tag_text (t.body ++ rest) t.tag_is in
    ap field_at same ∙ rw n (body_again f t.body rest t.body_is)

groups-some : (bs : List ℕ) → AreGroups bs → 0 < length bs
groups-some [] g = absurd g
groups-some (b ∷ bs) g = omega arith

field_some : (f : Field) (own : List ℕ) → FieldText f own → 0 < length own
field_some f own t = omega (arith, ap length t.own_is, length-append t.tag_text t.body, groups-some t.tag_text t.tag_is.groups)

fields-cons : (count : ℕ) (text : List ℕ) (f : Field) (later : List ℕ) (fs : List Field) → 0 < length text → field_at text ≡ Ok (f, later) → fields_at count later ≡ Ok fs → fields_at (suc count) text ≡ Ok (f ∷ fs)
unfolding fields_at
fields-cons count [] f later fs h one more = absurd (omega arith)
fields-cons count (c ∷ cs) f later fs h one more = rw (one, more) refl

fields_again : (fs : List Field) (count : ℕ) (text : List ℕ) → length text ≤ count → AreFields fs text → fields_at count text ≡ Ok fs
unfolding fields_at
fields_again [] zero text h is = refl
fields_again [] (suc count) text h is = rw is refl
fields_again (f ∷ fs) zero text h (own, later, is, one, more) = absurd (omega (arith, ap length is, length-append own later, field_some f own one))
fields_again (f ∷ fs) (suc count) text h (own, later, is, one, more) =
    let some = field_some f own one in
    let len : length text ≡ length own + length later = ap length is ∙ length-append own later in
    let first : field_at text ≡ Ok (f, later) = ap field_at is ∙ field_again f own later one in
    fields-cons count text f later fs (omega arith) first (fields_again fs count later (omega arith) more)

abbrev read_edit : Change → Result Change EditFault
read_edit e = Ok e

pub edit_again : (bytes : List ℕ) (edit : Change) → IsEdit bytes edit → edit_at bytes ≡ Ok edit
edit_again bytes edit is = ap with_edit (fields_again is.fields (length bytes) bytes (omega arith) is.spelled) ∙ ap read_edit (sym is.edit_is)
