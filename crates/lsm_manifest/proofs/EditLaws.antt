-- What is read as fields is spelled so, and what is spelled so is read.
use Rattle.std.proofs.Common.{◌≡◌, ℕ, zero, suc, ◌+◌, ◌-◌, ◌^◌, ◌<◌, ◌≤◌, Bool, true, false, cond, eqb, leb, List, [], ◌∷◌, ◌++◌, length, take, drop, Result, Ok, Err, refl, sym, ap, ◌∙◌, subst, append_assoc, arith}
use Rattle.std.proofs.lemmas.Bool.{le-leb, leb-true, eqb-true}
use Rattle.std.proofs.lemmas.List.{take_at, drop_at, take-append-drop, length-append, length-take-le}
use Rattle.lsm_codec.specs.declared.fault.CodecFault.{CodecFault}
use Rattle.lsm_codec.specs.Varint.{AreGroups, IsVarint32, varint32_at, varint64_at}
use Rattle.lsm_codec.proofs.CallerLemmas.{varint_takes, varint_again, IsBytes}
use Rattle.lsm_codec.specs.Keys.{is_internal}
use Rattle.lsm_manifest.specs.declared.edit_fault.EditFault.{EditFault}
use Rattle.lsm_manifest.specs.declared.edit_fault.EditFault.TheVariants.{UnknownTag, BadLevel, EditCut, BadEditKey}
use Rattle.lsm_manifest.specs.declared.edit.Edit.{Edit}
use Rattle.lsm_manifest.specs.Edit.{Field, Comparator, Log, Prev, Next, Last, Pointer, Deleted, Added, Both, NumberText, LevelText, BytesText, KeyText, tag_of, BodyText, FieldText, AreFields, edit_of, IsEdit}
use Rattle.lsm_manifest.specs.EditReading.{Read, ◌>>=◌, or_cut, short_number_at, number_at, level_at, bytes_at, key_at, both_at, as_field, pointer_at, deleted_at, keys_at, size_keys_at, file_at, added_at, body_at, field_at, fields_at, with_edit, edit_at}
use Rattle.lsm_manifest.proofs.RecordLaws.{IsBytes-after}

-- ---- readers and what they read

-- a text that spells x, and what follows it
pub record Front {A : Type 0} (T : A → List ℕ → Type 0) (text : List ℕ) (x : A) (rest : List ℕ) : Type 0 where
  pub own : List ℕ
  pub text_is : text ≡ own ++ rest
  pub is : T x own

-- The reader finds what is spelled, and nothing else.
pub record Agrees {A : Type 0} (p : List ℕ → Read A) (T : A → List ℕ → Type 0) : Type 0 where
  pub takes : (text : List ℕ) (x : A) (rest : List ℕ) → IsBytes text → p text ≡ Ok (x, rest) → Front T text x rest
  pub again : (x : A) (own rest : List ℕ) → T x own → p (own ++ rest) ≡ Ok (x, rest)

bind_ok : {A B : Type 0} (r : Result A EditFault) (f : A → Result B EditFault) (y : B) → (r >>= f) ≡ Ok y → (x : A) × (r ≡ Ok x) × (f x ≡ Ok y)
bind_ok (Ok x) f y e = (x, refl, e)
bind_ok (Err d) f y e = absurd cc

guard_ok : {A : Type 0} (b : Bool) (d : EditFault) (r : Result A EditFault) (y : A) → cond b r (Err d) ≡ Ok y → (b ≡ true) × (r ≡ Ok y)
guard_ok true d r y e = (refl, e)
guard_ok false d r y e = absurd cc

abbrev done : {A : Type 0} → A → Result A EditFault
done x = Ok x

ok_is : {A : Type 0} (x y : A) → done x ≡ done y → x ≡ y
ok_is x y e = cc

or_cut_ok : (r : Result (ℕ × List ℕ) CodecFault) (x : ℕ × List ℕ) → or_cut r ≡ Ok x → r ≡ Ok x
or_cut_ok (Ok y) x e = ap (λ (z : ℕ × List ℕ). Ok z) (ok_is y x e)
or_cut_ok (Err d) x e = absurd cc

abbrev ShortText : ℕ → List ℕ → Type 0
ShortText n own = IsVarint32 own n

pub short_number : Agrees short_number_at ShortText
unfolding short_number_at
short_number = record {
  takes = λ text x rest fits e. let f = varint_takes 5 (2 ^ 32 - 1) text x rest (omega arith) fits (or_cut_ok (varint32_at text) (x, rest) e) in record { own = f.front; text_is = f.parts; is = f.is };
  again = λ x own rest t. let v = varint_again 5 (2 ^ 32 - 1) own rest x t in ap or_cut v;
}

pub number : Agrees number_at NumberText
unfolding number_at
number = record {
  takes = λ text x rest fits e. let f = varint_takes 10 (2 ^ 64 - 1) text x rest (omega arith) fits (or_cut_ok (varint64_at text) (x, rest) e) in record { own = f.front; text_is = f.parts; is = f.is };
  again = λ x own rest t. let v = varint_again 10 (2 ^ 64 - 1) own rest x t in ap or_cut v;
}

level_takes : (text : List ℕ) (x : ℕ) (rest : List ℕ) → IsBytes text → level_at text ≡ Ok (x, rest) → Front LevelText text x rest
unfolding level_at
level_takes text x rest fits e =
    let b = bind_ok (short_number_at text) _ (x, rest) e in
    let g = guard_ok (leb b.0.0 6) (BadLevel b.0.0) (Ok b.0) (x, rest) b.2 in
    let f = short_number.takes text b.0.0 b.0.1 fits b.1 in
    let found : Front LevelText text b.0.0 b.0.1 = record { own = f.own; text_is = f.text_is; is = record { is = f.is; fits = leb-true _ _ g.0 } } in
    subst (λ (y : ℕ × List ℕ). Front LevelText text y.0 y.1) (ok_is b.0 (x, rest) g.1) found

level_again : (x : ℕ) (own rest : List ℕ) → LevelText x own → level_at (own ++ rest) ≡ Ok (x, rest)
unfolding level_at
level_again x own rest t =
    let n = short_number.again x own rest t.is in
    let yes = le-leb x 6 t.fits in
    rw (n, yes) refl

pub level : Agrees level_at LevelText
level = record { takes = level_takes; again = level_again }

bytes_takes : (text : List ℕ) (x rest : List ℕ) → IsBytes text → bytes_at text ≡ Ok (x, rest) → Front BytesText text x rest
unfolding bytes_at
bytes_takes text x rest fits e =
    let b = bind_ok (short_number_at text) _ (x, rest) e in
    let size = b.0.0 in
    let later = b.0.1 in
    let g = guard_ok (leb size (length later)) EditCut (Ok (take size later, drop size later)) (x, rest) b.2 in
    let f = short_number.takes text size later fits b.1 in
    let len : length (take size later) ≡ size = length-take-le size later (leb-true _ _ g.0) in
    let found : Front BytesText text (take size later) (drop size later) = record {
      own = f.own ++ take size later;
      text_is = f.text_is ∙ ap (λ (y : List ℕ). f.own ++ y) (sym (take-append-drop size later)) ∙ sym (append_assoc f.own (take size later) (drop size later));
      is = record { size_text = f.own; size_is = subst (λ (n : ℕ). IsVarint32 f.own n) (sym len) f.is; own_is = refl };
    } in
    subst (λ (y : List ℕ × List ℕ). Front BytesText text y.0 y.1) (ok_is (take size later, drop size later) (x, rest) g.1) found

bytes_again : (x own rest : List ℕ) → BytesText x own → bytes_at (own ++ rest) ≡ Ok (x, rest)
unfolding bytes_at
bytes_again x own rest t =
    let same : own ++ rest ≡ t.size_text ++ (x ++ rest) = ap (λ (y : List ℕ). y ++ rest) t.own_is ∙ append_assoc t.size_text x rest in
    let n = short_number.again (length x) t.size_text (x ++ rest) t.size_is in
    let yes : leb (length x) (length (x ++ rest)) ≡ true = le-leb _ _ (omega (arith, length-append x rest)) in
    let f : take (length x) (x ++ rest) ≡ x = take_at x rest (length x) refl in
    let d : drop (length x) (x ++ rest) ≡ rest = drop_at x rest (length x) refl in
    ap bytes_at same ∙ rw (n, yes, f, d) refl

pub bytes : Agrees bytes_at BytesText
bytes = record { takes = bytes_takes; again = bytes_again }

key_takes : (text : List ℕ) (x rest : List ℕ) → IsBytes text → key_at text ≡ Ok (x, rest) → Front KeyText text x rest
unfolding key_at
key_takes text x rest fits e =
    let b = bind_ok (bytes_at text) _ (x, rest) e in
    let g = guard_ok (is_internal b.0.0) BadEditKey (Ok b.0) (x, rest) b.2 in
    let f = bytes.takes text b.0.0 b.0.1 fits b.1 in
    let found : Front KeyText text b.0.0 b.0.1 = record { own = f.own; text_is = f.text_is; is = record { is = f.is; internal = g.0 } } in
    subst (λ (y : List ℕ × List ℕ). Front KeyText text y.0 y.1) (ok_is b.0 (x, rest) g.1) found

key_again : (x own rest : List ℕ) → KeyText x own → key_at (own ++ rest) ≡ Ok (x, rest)
unfolding key_at
key_again x own rest t =
    let n = bytes.again x own rest t.is in
    let yes = t.internal in
    rw (n, yes) refl

pub key : Agrees key_at KeyText
key = record { takes = key_takes; again = key_again }

-- one after the other
pub both : {A B : Type 0} (p : List ℕ → Read A) (q : List ℕ → Read B) (T : A → List ℕ → Type 0) (U : B → List ℕ → Type 0) → Agrees p T → Agrees q U → Agrees (both_at p q) (Both T U)
both {A} {B} p q T U a b = record { takes = together; again = apart }
  where
    together : (text : List ℕ) (x : A × B) (rest : List ℕ) → IsBytes text → both_at p q text ≡ Ok (x, rest) → Front (Both T U) text x rest
    together text x rest fits e =
        let b1 = bind_ok (p text) (λ x1. q x1.1 >>= λ y. Ok ((x1.0, y.0), y.1)) (x, rest) e in
        let f1 = a.takes text b1.0.0 b1.0.1 fits b1.1 in
        let b2 = bind_ok (q b1.0.1) (λ y. Ok ((b1.0.0, y.0), y.1)) (x, rest) b1.2 in
        let f2 = b.takes b1.0.1 b2.0.0 b2.0.1 (IsBytes-after text f1.own b1.0.1 f1.text_is fits) b2.1 in
        let found : Front (Both T U) text (b1.0.0, b2.0.0) b2.0.1 = record {
          own = f1.own ++ f2.own;
          text_is = f1.text_is ∙ ap (λ (y : List ℕ). f1.own ++ y) f2.text_is ∙ sym (append_assoc f1.own f2.own b2.0.1);
          is = record { first = f1.own; second = f2.own; own_is = refl; first_is = f1.is; second_is = f2.is };
        } in
        subst (λ (y : (A × B) × List ℕ). Front (Both T U) text y.0 y.1) (ok_is ((b1.0.0, b2.0.0), b2.0.1) (x, rest) b2.2) found

    apart : (x : A × B) (own rest : List ℕ) → Both T U x own → both_at p q (own ++ rest) ≡ Ok (x, rest)
    apart x own rest t =
        let same : own ++ rest ≡ t.first ++ (t.second ++ rest) = ap (λ (y : List ℕ). y ++ rest) t.own_is ∙ append_assoc t.first t.second rest in
        let one = a.again x.0 t.first (t.second ++ rest) t.first_is in
        let two = b.again x.1 t.second rest t.second_is in
        ap (both_at p q) same ∙ rw (one, two) refl

pub pointer : Agrees pointer_at (Both LevelText KeyText)
unfolding pointer_at
pointer = both level_at key_at LevelText KeyText level key

pub deleted : Agrees deleted_at (Both LevelText NumberText)
unfolding deleted_at
deleted = both level_at number_at LevelText NumberText level number

pub keys : Agrees keys_at (Both KeyText KeyText)
unfolding keys_at
keys = both key_at key_at KeyText KeyText key key

pub size_keys : Agrees size_keys_at (Both NumberText (Both KeyText KeyText))
unfolding size_keys_at
size_keys = both number_at keys_at NumberText (Both KeyText KeyText) number keys

pub file : Agrees file_at (Both NumberText (Both NumberText (Both KeyText KeyText)))
unfolding file_at
file = both number_at size_keys_at NumberText (Both NumberText (Both KeyText KeyText)) number size_keys

pub added : Agrees added_at (Both LevelText (Both NumberText (Both NumberText (Both KeyText KeyText))))
unfolding added_at
added = both level_at file_at LevelText (Both NumberText (Both NumberText (Both KeyText KeyText))) level file

-- ---- fields

pub record Tagged (tag : ℕ) (field : Field) (own : List ℕ) : Type 0 where
  pub is : BodyText field own
  pub tag_is : tag_of field ≡ tag

made : {A : Type 0} (make : A → Field) (p : List ℕ → Read A) (T : A → List ℕ → Type 0) → Agrees p T → ((x : A) (own : List ℕ) → T x own → BodyText (make x) own) → (tag : ℕ) → ((x : A) → tag_of (make x) ≡ tag)
    → (text : List ℕ) (f : Field) (rest : List ℕ) → IsBytes text → as_field make (p text) ≡ Ok (f, rest) → Front (Tagged tag) text f rest
made {A} make p T a text_is tag tag_is text f rest fits e =
    let b = bind_ok (p text) (λ (x : A × List ℕ). Ok (make x.0, x.1)) (f, rest) e in
    let t = a.takes text b.0.0 b.0.1 fits b.1 in
    let found : Front (Tagged tag) text (make b.0.0) b.0.1 = record { own = t.own; text_is = t.text_is; is = record { is = text_is b.0.0 t.own t.is; tag_is = tag_is b.0.0 } } in
    subst (λ (y : Field × List ℕ). Front (Tagged tag) text y.0 y.1) (ok_is (make b.0.0, b.0.1) (f, rest) b.2) found

choose : (P : Type 0) (b : Bool) (x y : Read Field) (r : Field × List ℕ) → cond b x y ≡ Ok r → (b ≡ true → x ≡ Ok r → P) → (y ≡ Ok r → P) → P
choose P true x y r e left right = left refl e
choose P false x y r e left right = right e

body_takes : (tag : ℕ) (text : List ℕ) (f : Field) (rest : List ℕ) → IsBytes text → body_at tag text ≡ Ok (f, rest) → Front (Tagged tag) text f rest
unfolding body_at
body_takes tag text f rest fits e =
    let P = Front (Tagged tag) text f rest in
    choose P (eqb tag 1) (as_field Comparator (bytes_at text)) _ (f, rest) e
    (λ b r. made Comparator bytes_at BytesText bytes (λ x own t. t) tag (λ x. sym (eqb-true tag 1 b)) text f rest fits r)
    (λ e2. choose P (eqb tag 2) (as_field Log (number_at text)) _ (f, rest) e2
    (λ b r. made Log number_at NumberText number (λ x own t. t) tag (λ x. sym (eqb-true tag 2 b)) text f rest fits r)
    (λ e3. choose P (eqb tag 9) (as_field Prev (number_at text)) _ (f, rest) e3
    (λ b r. made Prev number_at NumberText number (λ x own t. t) tag (λ x. sym (eqb-true tag 9 b)) text f rest fits r)
    (λ e4. choose P (eqb tag 3) (as_field Next (number_at text)) _ (f, rest) e4
    (λ b r. made Next number_at NumberText number (λ x own t. t) tag (λ x. sym (eqb-true tag 3 b)) text f rest fits r)
    (λ e5. choose P (eqb tag 4) (as_field Last (number_at text)) _ (f, rest) e5
    (λ b r. made Last number_at NumberText number (λ x own t. t) tag (λ x. sym (eqb-true tag 4 b)) text f rest fits r)
    (λ e6. choose P (eqb tag 5) (as_field Pointer (pointer_at text)) _ (f, rest) e6
    (λ b r. made Pointer pointer_at (Both LevelText KeyText) pointer (λ x own t. t) tag (λ x. sym (eqb-true tag 5 b)) text f rest fits r)
    (λ e7. choose P (eqb tag 6) (as_field Deleted (deleted_at text)) _ (f, rest) e7
    (λ b r. made Deleted deleted_at (Both LevelText NumberText) deleted (λ x own t. t) tag (λ x. sym (eqb-true tag 6 b)) text f rest fits r)
    (λ e8. choose P (eqb tag 7) (as_field Added (added_at text)) (Err (UnknownTag tag)) (f, rest) e8
    (λ b r. made Added added_at (Both LevelText (Both NumberText (Both NumberText (Both KeyText KeyText)))) added (λ x own t. t) tag (λ x. sym (eqb-true tag 7 b)) text f rest fits r)
    (λ bad. absurd cc))))))))

body_again : (f : Field) (own rest : List ℕ) → BodyText f own → body_at (tag_of f) (own ++ rest) ≡ Ok (f, rest)
unfolding body_at
body_again (Comparator x) own rest t = let a = bytes.again x own rest t in rw a refl
body_again (Log x) own rest t = let a = number.again x own rest t in rw a refl
body_again (Prev x) own rest t = let a = number.again x own rest t in rw a refl
body_again (Next x) own rest t = let a = number.again x own rest t in rw a refl
body_again (Last x) own rest t = let a = number.again x own rest t in rw a refl
body_again (Pointer x) own rest t = let a = pointer.again x own rest t in rw a refl
body_again (Deleted x) own rest t = let a = deleted.again x own rest t in rw a refl
body_again (Added x) own rest t = let a = added.again x own rest t in rw a refl

field_takes : (text : List ℕ) (f : Field) (rest : List ℕ) → IsBytes text → field_at text ≡ Ok (f, rest) → Front FieldText text f rest
unfolding field_at
field_takes text f rest fits e =
    let b = bind_ok (short_number_at text) (λ (x : ℕ × List ℕ). body_at x.0 x.1) (f, rest) e in
    let t = short_number.takes text b.0.0 b.0.1 fits b.1 in
    let u = body_takes b.0.0 b.0.1 f rest (IsBytes-after text t.own b.0.1 t.text_is fits) b.2 in
    let tag : IsVarint32 t.own (tag_of f) = subst (λ (n : ℕ). IsVarint32 t.own n) (sym u.is.tag_is) t.is in
    record {
      own = t.own ++ u.own;
      text_is = t.text_is ∙ ap (λ (y : List ℕ). t.own ++ y) u.text_is ∙ sym (append_assoc t.own u.own rest);
      is = record { tag_text = t.own; body = u.own; own_is = refl; tag_is = tag; body_is = u.is.is };
    }

field_again : (f : Field) (own rest : List ℕ) → FieldText f own → field_at (own ++ rest) ≡ Ok (f, rest)
unfolding field_at
field_again f own rest t =
    let same : own ++ rest ≡ t.tag_text ++ (t.body ++ rest) = ap (λ (y : List ℕ). y ++ rest) t.own_is ∙ append_assoc t.tag_text t.body rest in
    let n = short_number.again (tag_of f) t.tag_text (t.body ++ rest) t.tag_is in
    ap field_at same ∙ rw n (body_again f t.body rest t.body_is)

pub field : Agrees field_at FieldText
field = record { takes = field_takes; again = field_again }

groups-some : (bs : List ℕ) → AreGroups bs → 0 < length bs
groups-some [] g = absurd g
groups-some (b ∷ bs) g = omega arith

field_some : (f : Field) (own : List ℕ) → FieldText f own → 0 < length own
field_some f own t = omega (arith, ap length t.own_is, length-append t.tag_text t.body, groups-some t.tag_text t.tag_is.groups)

pub fields_takes : (count : ℕ) (text : List ℕ) (fs : List Field) → length text ≤ count → IsBytes text → fields_at count text ≡ Ok fs → AreFields fs text
unfolding fields_at
fields_takes zero text fs h fits e = subst (λ (x : List Field). AreFields x text) (ok_is [] fs e) (nothing text (omega arith))
  where
    nothing : (xs : List ℕ) → length xs ≤ 0 → xs ≡ []
    nothing [] k = refl
    nothing (x ∷ xs) k = absurd (omega arith)
fields_takes (suc count) [] fs h fits e = subst (λ (x : List Field). AreFields x []) (ok_is [] fs e) refl
fields_takes (suc count) (c ∷ cs) fs h fits e =
    let b1 = bind_ok (field_at (c ∷ cs)) (λ (x : Field × List ℕ). fields_at count x.1 >>= λ gs. Ok (x.0 ∷ gs)) fs e in
    let t = field_takes (c ∷ cs) b1.0.0 b1.0.1 fits b1.1 in
    let b2 = bind_ok (fields_at count b1.0.1) (λ (gs : List Field). Ok (b1.0.0 ∷ gs)) fs b1.2 in
    let some = field_some b1.0.0 t.own t.is in
    let len : length (c ∷ cs) ≡ length t.own + length b1.0.1 = ap length t.text_is ∙ length-append t.own b1.0.1 in
    let later = fields_takes count b1.0.1 b2.0 (omega (arith, h)) (IsBytes-after (c ∷ cs) t.own b1.0.1 t.text_is fits) b2.1 in
    subst (λ (x : List Field). AreFields x (c ∷ cs)) (ok_is (b1.0.0 ∷ b2.0) fs b2.2) (t.own, b1.0.1, t.text_is, t.is, later)

fields-cons : (count : ℕ) (text : List ℕ) (f : Field) (later : List ℕ) (fs : List Field) → 0 < length text → field_at text ≡ Ok (f, later) → fields_at count later ≡ Ok fs → fields_at (suc count) text ≡ Ok (f ∷ fs)
unfolding fields_at
fields-cons count [] f later fs h one more = absurd (omega arith)
fields-cons count (c ∷ cs) f later fs h one more = rw (one, more) refl

pub fields_again : (fs : List Field) (count : ℕ) (text : List ℕ) → length text ≤ count → AreFields fs text → fields_at count text ≡ Ok fs
unfolding fields_at
fields_again [] zero text h is = refl
fields_again [] (suc count) text h is = rw is refl
fields_again (f ∷ fs) zero text h (own, later, is, one, more) = absurd (omega (arith, ap length is, length-append own later, field_some f own one))
fields_again (f ∷ fs) (suc count) text h (own, later, is, one, more) =
    let some = field_some f own one in
    let len : length text ≡ length own + length later = ap length is ∙ length-append own later in
    let first : field_at text ≡ Ok (f, later) = ap field_at is ∙ field_again f own later one in
    fields-cons count text f later fs (omega arith) first (fields_again fs count later (omega arith) more)

-- ---- edits

abbrev read_edit : Edit → Result Edit EditFault
read_edit e = Ok e

edit_is : (e f : Edit) → read_edit e ≡ read_edit f → e ≡ f
edit_is e f p = cc

fields_first : (r : Result (List Field) EditFault) (edit : Edit) → with_edit r ≡ Ok edit → (fs : List Field) × (r ≡ Ok fs) × (edit ≡ edit_of fs)
fields_first (Ok fs) edit e = (fs, refl, sym (edit_is (edit_of fs) edit e))
fields_first (Err d) edit e = absurd cc

pub edit_takes : (bytes : List ℕ) (edit : Edit) → IsBytes bytes → edit_at bytes ≡ Ok edit → IsEdit bytes edit
edit_takes bytes edit fits e =
    let f = fields_first (fields_at (length bytes) bytes) edit e in
    record { fields = f.0; spelled = fields_takes (length bytes) bytes f.0 (omega arith) fits f.1; edit_is = f.2 }

pub edit_again : (bytes : List ℕ) (edit : Edit) → IsEdit bytes edit → edit_at bytes ≡ Ok edit
edit_again bytes edit is = ap with_edit (fields_again is.fields (length bytes) bytes (omega arith) is.spelled) ∙ ap read_edit (sym is.edit_is)

-- At most one edit fits a text.
pub one_edit : (bytes : List ℕ) (e f : Edit) → IsEdit bytes e → IsEdit bytes f → e ≡ f
one_edit bytes e f a b = edit_is e f (sym (edit_again bytes e a) ∙ edit_again bytes f b)
