-- A sequence is read as it is spelled, and spelled as it is read.
use Rattle.std.proofs.Common.{◌≡◌, ℕ, ◌+◌, ◌-◌, ◌*◌, ◌^◌, ◌<◌, ◌≤◌, leb, ltb, List, [], ◌∷◌, length, Option, Some, None, refl, sym, ap, ◌∙◌, arith, inl, inr}
use Rattle.std.specs.Prelude.{◌&&◌, IfNone, IfSome}
use Rattle.std.proofs.lemmas.Bool.{le-leb, leb-true, lt-ltb, ltb-true, cases_Bool, and_parts}
use Rattle.std.proofs.lemmas.Str.Parse.{digit_from_value}
use Rattle.std.specs.Str.Parse.{AllDigits, digits_value_after}
use Rattle.std.specs.Char.{digit_value}
use Rattle.lsm_text.specs.EntryList.{IsSequenceWord}
use Rattle.lsm_text.specs.Numbers.{IsNumberWord}
use Rattle.lsm_text.specs.EntryReading.{digits_at, sequence_at}
use Rattle.lsm_text.proofs.NumberLaws.{value-grows, value_is}

-- what the test of one digit says
record OneMore (n c m : ℕ) (cs : List ℕ) : Type 0 where
  is_digit : digit_value c < 10
  next : n * 10 + (c - 48) ≡ n * 10 + digit_value c
  small : n * 10 + (c - 48) < 2 ^ 56
  later : digits_at (n * 10 + (c - 48)) cs ≡ Some m

one_more : (n c m : ℕ) (cs : List ℕ) → digits_at n (c ∷ cs) ≡ Some m → OneMore n c m cs
unfolding digits_at
one_more n c m cs h = elim (cases_Bool (leb 48 c && leb c 57 && ltb (n * 10 + (c - 48)) (2 ^ 56))) [
  | inl fine ↦
      let parts = and_parts (leb 48 c && leb c 57) (ltb (n * 10 + (c - 48)) (2 ^ 56)) fine in
      let ends = and_parts (leb 48 c) (leb c 57) parts.0 in
      let low = leb-true _ _ ends.0 in
      let high = leb-true _ _ ends.1 in
      let e = value_is c low high in
      record {
        is_digit = omega (arith, e);
        next = ap (λ v. n * 10 + v) (sym e);
        small = ltb-true _ _ parts.1;
        later = rw fine at h;
      }
  | inr not_so ↦ let bad : None ≡ Some m = rw not_so at h in absurd cc
]

pub digits_take : (n : ℕ) (ds : List ℕ) (m : ℕ) → n < 2 ^ 56 → digits_at n ds ≡ Some m
    → AllDigits 10 ds × (digits_value_after 10 n ds ≡ m) × (m < 2 ^ 56)
unfolding digits_at
digits_take n [] m small h = let e : n ≡ m = cc in (tt, e, omega (arith, e))
digits_take n (c ∷ cs) m small h =
    let o = one_more n c m cs h in
    let later = digits_take (n * 10 + (c - 48)) cs m o.small o.later in
    ((o.is_digit, later.0), ap (λ v. digits_value_after 10 v cs) (sym o.next) ∙ later.1, later.2)

pub digits_again : (n : ℕ) (ds : List ℕ) → AllDigits 10 ds → digits_value_after 10 n ds < 2 ^ 56
    → digits_at n ds ≡ Some (digits_value_after 10 n ds)
unfolding digits_at
digits_again n [] all small = refl
digits_again n (c ∷ cs) all small =
    let range = digit_from_value c all.0 in
    let e = value_is c range.0 range.1 in
    let next : n * 10 + (c - 48) ≡ n * 10 + digit_value c = ap (λ v. n * 10 + v) (sym e) in
    let grown = value-grows (n * 10 + digit_value c) cs in
    let low = le-leb _ _ range.0 in
    let high = le-leb _ _ range.1 in
    let fits = lt-ltb (n * 10 + (c - 48)) (2 ^ 56) (omega (arith, next, grown, small)) in
    rw (low, high, fits) (ap (λ v. digits_at v cs) next ∙ digits_again (n * 10 + digit_value c) cs all.1 small)

pub sequence_takes : (word : List ℕ) (seq : ℕ) → sequence_at word ≡ Some seq → IsSequenceWord word seq
unfolding sequence_at
sequence_takes word seq h = elim (cases_Bool (ltb 0 (length word) && leb (length word) 20)) [
  | inl fine ↦
      let parts = and_parts (ltb 0 (length word)) (leb (length word) 20) fine in
      let d = digits_take 0 word seq (omega arith) (rw fine at h) in
      record {
        number = record { digits = (ltb-true _ _ parts.0, d.0); value = d.1; fits = omega (arith, d.2) };
        short = leb-true _ _ parts.1;
      }
  | inr not_so ↦ let bad : None ≡ Some seq = rw not_so at h in absurd cc
]

pub sequence_again : (word : List ℕ) (seq : ℕ) → IsSequenceWord word seq → sequence_at word ≡ Some seq
unfolding sequence_at
sequence_again word seq s =
    let some = lt-ltb _ _ s.number.digits.0 in
    let short = le-leb _ _ s.short in
    rw (some, short) (digits_again 0 word s.number.digits.1 (omega (arith, s.number.value, s.number.fits)) ∙ ap (λ v. Some v) s.number.value)

-- ---- a word of which is known what number it spells

none_at : (word : List ℕ) (o : Option ℕ) → sequence_at word ≡ o → ((seq : ℕ) → IsSequenceWord word seq → ⊥) → None ≡ o
none_at word None e none = refl
none_at word (Some seq) e none = absurd (none seq (sequence_takes word seq e))

pub sequence_is : (word : List ℕ) (r : Option ℕ) → length word ≤ 20 → IfSome r (IsNumberWord (2 ^ 56 - 1) word)
    → IfNone r ((n : ℕ) → IsNumberWord (2 ^ 56 - 1) word n → ⊥) → r ≡ sequence_at word
sequence_is word None short some none = none_at word (sequence_at word) refl (λ seq s. none seq s.number)
sequence_is word (Some seq) short some none = sym (sequence_again word seq (record { number = some; short = short }))

pub none_long : (word : List ℕ) → 20 < length word → None ≡ sequence_at word
none_long word long = none_at word (sequence_at word) refl (λ seq s. absurd (omega (arith, s.short, long)))
