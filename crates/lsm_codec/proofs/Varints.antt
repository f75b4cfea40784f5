-- Numbers in groups of seven bits.
use Rattle.std.proofs.Common.{◌≡◌, ℕ, zero, suc, ◌+◌, ◌-◌, ◌*◌, ◌/◌, ◌%◌, ◌^◌, ◌<◌, ◌≤◌, ◌⊎◌, false, ltb, List, [], ◌∷◌, ◌++◌, length, get_or, take, drop, Result, Ok, Err, refl, sym, ap, ap₂, append_assoc, ◌∙◌, subst, arith, inl, inr}
use Rattle.std.specs.Prelude.{IfOk, IfErr, ◌↔◌}
use Rattle.std.proofs.Math.Nat.{pow-suc}
use Rattle.std.proofs.lemmas.Bool.{cases_lt, le-ltb, lt-ltb, le-leb, lt-leb}
use Rattle.std.proofs.lemmas.List.{take_all, take_at, drop_at, take-append-drop, length-take-le, length-drop, length-append, get_or-drop}
use Rattle.lsm_codec.specs.declared.fault.CodecFault.{CodecFault}
use Rattle.lsm_codec.specs.declared.fault.CodecFault.TheVariants.{Cut, TooBig}
use Rattle.lsm_codec.specs.Varint.{AreGroups, value_of, IsVarint, IsCut, IsEndless, IsOver, IsTooBig, GetsVarint, Reads, IsShortest, with_low, varint_at, shortest}

-- the rest that a slice pattern binds
pub tail_is : (bytes : List ℕ) → take (length bytes - 1) (drop 1 bytes) ≡ drop 1 bytes
tail_is bytes = take_all (length bytes - 1) (drop 1 bytes) (omega (arith, length-drop 1 bytes))

-- one group before others
pub varint_at-more : (most max : ℕ) (bytes : List ℕ) → 0 < most → 0 < length bytes → 128 ≤ get_or bytes 0 0
    → varint_at most max bytes ≡ with_low max (get_or bytes 0 0 % 128) (varint_at (most - 1) max (drop 1 bytes))
unfolding varint_at
varint_at-more zero max bytes h l g = absurd (omega arith)
varint_at-more (suc most) max [] h l g = absurd (omega arith)
varint_at-more (suc most) max (b ∷ bs) h l g =
    let no : ltb b 128 ≡ false = le-ltb b 128 g in
    let k : suc most - 1 ≡ most = omega arith in
    rw (no, k) refl

pub more_err : (most max : ℕ) (bytes : List ℕ) (e : CodecFault) → 0 < most → 0 < length bytes → 128 ≤ get_or bytes 0 0
    → varint_at (most - 1) max (drop 1 bytes) ≡ Err e → varint_at most max bytes ≡ Err e
more_err most max bytes e h l g is = varint_at-more most max bytes h l g ∙ rw is refl

pub more_big : (most max : ℕ) (bytes : List ℕ) (high used : ℕ) → 0 < most → 0 < length bytes → 128 ≤ get_or bytes 0 0
    → varint_at (most - 1) max (drop 1 bytes) ≡ Ok (high, drop used (drop 1 bytes)) → max < get_or bytes 0 0 % 128 + 128 * high → varint_at most max bytes ≡ Err TooBig
more_big most max bytes high used h l g is big =
    let no = lt-leb _ _ big in
    varint_at-more most max bytes h l g ∙ rw (is, no) refl

pub more_ok : (most max : ℕ) (bytes : List ℕ) (high used : ℕ) → 0 < most → 0 < length bytes → 128 ≤ get_or bytes 0 0
    → varint_at (most - 1) max (drop 1 bytes) ≡ Ok (high, drop used (drop 1 bytes)) → get_or bytes 0 0 % 128 + 128 * high ≤ max
    → varint_at most max bytes ≡ Ok (get_or bytes 0 0 % 128 + 128 * high, drop (used + 1) bytes)
more_ok most max [] high used h l g is small = absurd (omega arith)
more_ok most max (b ∷ bs) high used h l g is small =
    let yes = le-leb _ _ small in
    let k : used + 1 ≡ suc used = omega arith in
    varint_at-more most max (b ∷ bs) h l g ∙ rw (is, yes, k) refl

-- ---- the definition and the reading of it

abbrev pub IsBytes : List ℕ → Type 0
IsBytes bytes = (i : ℕ) → get_or bytes i 0 < 256

pub IsBytes-after : (bytes front rest : List ℕ) → bytes ≡ front ++ rest → IsBytes bytes → IsBytes rest
IsBytes-after bytes front rest e fits i =
    let d : drop (length front) bytes ≡ rest = ap (drop (length front)) e ∙ drop_at front rest (length front) refl in
    let f : get_or (drop (length front) bytes) i 0 < 256 = rw get_or-drop (fits (length front + i)) in
    rw d at f

groups-cons : (b : ℕ) (bs : List ℕ) → 128 ≤ b → b < 256 → AreGroups bs → AreGroups (b ∷ bs)
groups-cons b [] h k g = absurd g
groups-cons b (c ∷ bs) h k g = (h, k, g)

abbrev done : ℕ → List ℕ → Result (ℕ × List ℕ) CodecFault
done n rest = Ok (n, rest)

pair_of : Result (ℕ × List ℕ) CodecFault → ℕ × List ℕ
pair_of (Ok x) = x
pair_of (Err e) = (0, [])

pub done_is : (m n : ℕ) (xs ys : List ℕ) → done m xs ≡ done n ys → (m ≡ n) × (xs ≡ ys)
unfolding pair_of
done_is m n xs ys e =
    (ap (λ (r : Result (ℕ × List ℕ) CodecFault). (pair_of r).0) e, ap (λ (r : Result (ℕ × List ℕ) CodecFault). (pair_of r).1) e)

with_low_ok : (max low n : ℕ) (rest : List ℕ) (r : Result (ℕ × List ℕ) CodecFault) → with_low max low r ≡ done n rest
    → (high : ℕ) × (r ≡ done high rest) × (low + 128 * high ≡ n) × (n ≤ max)
with_low_ok max low n rest (Err e) is = absurd cc
with_low_ok max low n rest (Ok high) is =
    elim (cases_lt max (low + 128 * high.0)) [
      | inl big ↦ let no = lt-leb _ _ big in let bad = rw no at is in absurd cc
      | inr small ↦
          let yes = le-leb _ _ small in
          let found : done (low + 128 * high.0) high.1 ≡ done n rest = rw yes at is in
          let both = done_is (low + 128 * high.0) n high.1 rest found in
          (high.0, ap (λ (x : List ℕ). done high.0 x) both.1, both.0, omega (arith, both.0))
    ]

pub record Front (most max n : ℕ) (bytes rest : List ℕ) : Type 0 where
  pub front : List ℕ
  pub parts : bytes ≡ front ++ rest
  pub is : IsVarint most max front n

pub varint_takes : (most max : ℕ) (bytes : List ℕ) (n : ℕ) (rest : List ℕ) → 127 ≤ max → IsBytes bytes → varint_at most max bytes ≡ done n rest → Front most max n bytes rest
unfolding varint_at
varint_takes zero max bytes n rest m fits is = absurd cc
varint_takes (suc most) max [] n rest m fits is = absurd cc
varint_takes (suc most) max (b ∷ bs) n rest m fits is =
    elim (cases_lt b 128) [
      | inl small ↦
          let yes = lt-ltb _ _ small in
          let found : done b bs ≡ done n rest = rw yes at is in
          let both = done_is b n bs rest found in
          record {
            front = b ∷ [];
            parts = ap (λ (x : List ℕ). b ∷ x) both.1;
            is = record { groups = small; short = omega arith; value = omega (arith, both.0); fits = omega (arith, both.0) };
          }
      | inr big ↦
          let no = le-ltb _ _ big in
          let more : with_low max (b % 128) (varint_at most max bs) ≡ done n rest = rw no at is in
          let w = with_low_ok max (b % 128) n rest (varint_at most max bs) more in
          let f = varint_takes most max bs w.0 rest m (λ i. fits (suc i)) w.1 in
          record {
            front = b ∷ f.front;
            parts = ap (λ (x : List ℕ). b ∷ x) f.parts;
            is = record {
              groups = groups-cons b f.front big (fits 0) f.is.groups;
              short = omega (arith, f.is.short);
              value = omega (arith, f.is.value, w.2);
              fits = w.3;
            };
          }
    ]

pub varint_again : (most max : ℕ) (front rest : List ℕ) (n : ℕ) → IsVarint most max front n → varint_at most max (front ++ rest) ≡ done n rest
unfolding varint_at
varint_again most max [] rest n v = absurd v.groups
varint_again zero max (b ∷ bs) rest n v = absurd (omega (arith, v.short))
varint_again (suc most) max (b ∷ []) rest n v =
    let yes = lt-ltb _ _ v.groups in
    let n-is : b ≡ n = omega (arith, v.value, v.groups) in
    rw yes (ap (λ (x : ℕ). done x rest) n-is)
varint_again (suc most) max (b ∷ c ∷ bs) rest n v =
    let no = le-ltb b 128 v.groups.0 in
    let high = value_of (c ∷ bs) in
    let more : IsVarint most max (c ∷ bs) high = record { groups = v.groups.2; short = omega (arith, v.short); value = refl; fits = omega (arith, v.value, v.fits) } in
    let ih = varint_again most max (c ∷ bs) rest high more in
    let yes = le-leb (b % 128 + 128 * high) max (omega (arith, v.value, v.fits)) in
    rw (no, ih, yes) (ap (λ (x : ℕ). done x rest) v.value)

-- ---- the input ends

with_low_cut : (max low : ℕ) (r : Result (ℕ × List ℕ) CodecFault) → with_low max low r ≡ Err Cut → r ≡ Err Cut
with_low_cut max low (Err e) is = is
with_low_cut max low (Ok high) is =
    elim (cases_lt max (low + 128 * high.0)) [
      | inl big ↦ let no = lt-leb _ _ big in let bad = rw no at is in absurd cc
      | inr small ↦ let yes = le-leb _ _ small in let bad = rw yes at is in absurd cc
    ]

pub cut_is : (most max : ℕ) (bytes : List ℕ) → varint_at most max bytes ≡ Err Cut → IsCut most bytes
unfolding varint_at
cut_is zero max bytes is = absurd cc
cut_is (suc most) max [] is = record { short = omega arith; open_ended = tt }
cut_is (suc most) max (b ∷ bs) is =
    elim (cases_lt b 128) [
      | inl small ↦ let yes = lt-ltb _ _ small in let bad = rw yes at is in absurd cc
      | inr big ↦
          let no = le-ltb _ _ big in
          let more = with_low_cut max (b % 128) (varint_at most max bs) (rw no at is) in
          let c = cut_is most max bs more in
          record { short = omega (arith, c.short); open_ended = (big, c.open_ended) }
    ]

pub is_cut : (most max : ℕ) (bytes : List ℕ) → IsCut most bytes → varint_at most max bytes ≡ Err Cut
unfolding varint_at
is_cut zero max bytes c = absurd (omega (arith, c.short))
is_cut (suc most) max [] c = refl
is_cut (suc most) max (b ∷ bs) c =
    let no = le-ltb b 128 c.open_ended.0 in
    let more = is_cut most max bs record { short = omega (arith, c.short); open_ended = c.open_ended.1 } in
    rw (no, more) refl

-- ---- too long, or too big

abbrev FailsHigh : ℕ → ℕ → Result (ℕ × List ℕ) CodecFault → Type 0
FailsHigh max low (Ok high) = max < low + 128 * high.0
FailsHigh max low (Err e) = e ≡ TooBig

with_low_big : (max low : ℕ) (r : Result (ℕ × List ℕ) CodecFault) → with_low max low r ≡ Err TooBig → FailsHigh max low r
with_low_big max low (Err e) is = cc
with_low_big max low (Ok high) is =
    elim (cases_lt max (low + 128 * high.0)) [
      | inl big ↦ big
      | inr small ↦ let yes = le-leb _ _ small in let bad = rw yes at is in absurd cc
    ]

more_groups : (most max b : ℕ) (bs front rest : List ℕ) → 128 ≤ b → b < 256 → bs ≡ front ++ rest → AreGroups front → length front ≤ most → max < b % 128 + 128 * value_of front
    → IsOver (suc most) max (b ∷ bs)
more_groups most max b bs front rest big fits parts groups short over =
    let here : take (length front) bs ≡ front = ap (take (length front)) parts ∙ take_at front rest (length front) refl in
    record {
      len = suc (length front);
      here = omega (arith, ap length parts, length-append front rest);
      short = omega (arith, short);
      groups = rw here (groups-cons b front big fits groups);
      over = rw here over;
    }

pub big_is : (most max : ℕ) (bytes : List ℕ) → 127 ≤ max → IsBytes bytes → varint_at most max bytes ≡ Err TooBig → IsTooBig most max bytes
unfolding varint_at
big_is zero max bytes m fits is = inl record { long = omega arith; open_ended = tt }
big_is (suc most) max [] m fits is = absurd cc
big_is (suc most) max (b ∷ bs) m fits is =
    elim (cases_lt b 128) [
      | inl small ↦ let yes = lt-ltb _ _ small in let bad = rw yes at is in absurd cc
      | inr big ↦
          let no = le-ltb _ _ big in
          let high = with_low_big max (b % 128) (varint_at most max bs) (rw no at is) in
          at_high big (varint_at most max bs) refl high (big_is most max bs m (λ i. fits (suc i)))
    ]
  where
    at_high : 128 ≤ b → (r : Result (ℕ × List ℕ) CodecFault) → varint_at most max bs ≡ r → FailsHigh max (b % 128) r
        → (varint_at most max bs ≡ Err TooBig → IsTooBig most max bs) → IsTooBig (suc most) max (b ∷ bs)
    at_high big (Ok high) e over rec =
        let f = varint_takes most max bs high.0 high.1 m (λ i. fits (suc i)) e in
        inr (more_groups most max b bs f.front high.1 big (fits 0) f.parts f.is.groups f.is.short (omega (arith, over, f.is.value)))
    at_high big (Err fault) e why rec = elim (rec (e ∙ ap (λ (x : CodecFault). Err x) why)) [
      | inl endless ↦ inl record { long = omega (arith, endless.long); open_ended = (big, endless.open_ended) }
      | inr o ↦ inr record {
        len = suc o.len;
        here = omega (arith, o.here);
        short = omega (arith, o.short);
        groups = groups-cons b (take o.len bs) big (fits 0) o.groups;
        over = omega (arith, o.over);
      }
    ]

endless_is : (most max : ℕ) (bytes : List ℕ) → IsEndless most bytes → varint_at most max bytes ≡ Err TooBig
unfolding varint_at
endless_is zero max bytes e = refl
endless_is (suc most) max [] e = absurd (omega (arith, e.long))
endless_is (suc most) max (b ∷ bs) e =
    let no = le-ltb b 128 e.open_ended.0 in
    let more = endless_is most max bs record { long = omega (arith, e.long); open_ended = e.open_ended.1 } in
    rw (no, more) refl

over_is : (most max : ℕ) (front rest : List ℕ) → 127 ≤ max → AreGroups front → length front ≤ most → max < value_of front → varint_at most max (front ++ rest) ≡ Err TooBig
unfolding varint_at
over_is most max [] rest m groups short over = absurd groups
over_is zero max (b ∷ bs) rest m groups short over = absurd (omega (arith, short))
over_is (suc most) max (b ∷ []) rest m groups short over = absurd (omega (arith, over, m))
over_is (suc most) max (b ∷ c ∷ bs) rest m groups short over =
    let no = le-ltb b 128 groups.0 in
    let high = value_of (c ∷ bs) in
    elim (cases_lt max high) [
      | inl big ↦
          let more = over_is most max (c ∷ bs) rest m groups.2 (omega (arith, short)) big in
          rw (no, more) refl
      | inr small ↦
          let more : IsVarint most max (c ∷ bs) high = record { groups = groups.2; short = omega (arith, short); value = refl; fits = small } in
          let found = varint_again most max (c ∷ bs) rest high more in
          let too_big = lt-leb (b % 128 + 128 * high) max over in
          rw (no, found, too_big) refl
    ]

pub is_big : (most max : ℕ) (bytes : List ℕ) → 127 ≤ max → IsTooBig most max bytes → varint_at most max bytes ≡ Err TooBig
is_big most max bytes m (inl endless) = endless_is most max bytes endless
is_big most max bytes m (inr o) =
    let short : length (take o.len bytes) ≤ most = omega (arith, length-take-le o.len bytes o.here, o.short) in
    ap (varint_at most max) (sym (take-append-drop o.len bytes)) ∙ over_is most max (take o.len bytes) (drop o.len bytes) m o.groups short o.over

-- ---- what the readers promise

abbrev pub AnswersFault : Result (ℕ × ℕ) CodecFault → Type 0
AnswersFault result = IfErr result (λ e. (e ≡ Cut) ⊎ (e ≡ TooBig))

found_from : (most max : ℕ) (bytes : List ℕ) (result : Result (ℕ × ℕ) CodecFault) → 127 ≤ max → IsBytes bytes → Reads bytes result (varint_at most max bytes)
    → IfOk result (λ r. (r.1 ≤ length bytes) × IsVarint most max (take r.1 bytes) r.0)
found_from most max bytes (Err e) m fits is = tt
found_from most max bytes (Ok r) m fits is =
    let f = varint_takes most max bytes r.0 (drop r.1 bytes) m fits is.0 in
    let len : length f.front ≡ r.1 = omega (arith, ap length f.parts, length-append f.front (drop r.1 bytes), length-drop r.1 bytes, is.1) in
    let front : take r.1 bytes ≡ f.front = ap (take r.1) f.parts ∙ take_at f.front (drop r.1 bytes) r.1 len in
    (is.1, rw front f.is)

only_from : (most max : ℕ) (bytes : List ℕ) (result : Result (ℕ × ℕ) CodecFault) → Reads bytes result (varint_at most max bytes)
    → (len n : ℕ) → len ≤ length bytes → IsVarint most max (take len bytes) n → result ≡ Ok (n, len)
only_from most max bytes (Err e) is len n le v =
    let again : varint_at most max bytes ≡ done n (drop len bytes) = ap (varint_at most max) (sym (take-append-drop len bytes)) ∙ varint_again most max (take len bytes) (drop len bytes) n v in
    absurd cc
only_from most max bytes (Ok r) is len n le v =
    let again : varint_at most max bytes ≡ done n (drop len bytes) = ap (varint_at most max) (sym (take-append-drop len bytes)) ∙ varint_again most max (take len bytes) (drop len bytes) n v in
    let both = done_is r.0 n (drop r.1 bytes) (drop len bytes) (sym is.0 ∙ again) in
    let lens : r.1 ≡ len = omega (arith, ap length both.1, length-drop r.1 bytes, length-drop len bytes, is.1, le) in
    ap₂ (λ (x y : ℕ). Ok (x, y)) both.0 lens

cut_from : (most max : ℕ) (bytes : List ℕ) (result : Result (ℕ × ℕ) CodecFault) → Reads bytes result (varint_at most max bytes) → result ≡ Err Cut ↔ IsCut most bytes
cut_from most max bytes (Err e) is =
    (λ h. cut_is most max bytes (let k : e ≡ Cut = cc in is ∙ ap (λ (x : CodecFault). Err x) k), λ c. let k : Err e ≡ Err Cut = sym is ∙ is_cut most max bytes c in let same : e ≡ Cut = cc in ap (λ (x : CodecFault). Err x) same)
cut_from most max bytes (Ok r) is =
    (λ h. absurd cc, λ c. let k = sym is.0 ∙ is_cut most max bytes c in absurd cc)

too_big_from : (most max : ℕ) (bytes : List ℕ) (result : Result (ℕ × ℕ) CodecFault) → 127 ≤ max → IsBytes bytes → Reads bytes result (varint_at most max bytes)
    → result ≡ Err TooBig ↔ IsTooBig most max bytes
too_big_from most max bytes (Err e) m fits is =
    (λ h. big_is most max bytes m fits (let k : e ≡ TooBig = cc in is ∙ ap (λ (x : CodecFault). Err x) k), λ b. let k : Err e ≡ Err TooBig = sym is ∙ is_big most max bytes m b in let same : e ≡ TooBig = cc in ap (λ (x : CodecFault). Err x) same)
too_big_from most max bytes (Ok r) m fits is =
    (λ h. absurd cc, λ b. let k = sym is.0 ∙ is_big most max bytes m b in absurd cc)

pub gets_from : (most max : ℕ) (bytes : List ℕ) (result : Result (ℕ × ℕ) CodecFault) → 127 ≤ max → IsBytes bytes → AnswersFault result → Reads bytes result (varint_at most max bytes)
    → GetsVarint most max bytes result
gets_from most max bytes result m fits fault is =
    record { found = found_from most max bytes result m fits is; only = only_from most max bytes result is; cut = cut_from most max bytes result is; too_big = too_big_from most max bytes result m fits is; fault = fault }

-- ---- the shortest spelling

pub shortest-last : (most n : ℕ) → 0 < most → n < 128 → shortest most n ≡ n ∷ []
unfolding shortest
shortest-last zero n h l = absurd (omega arith)
shortest-last (suc most) n h l = let yes = lt-ltb _ _ l in rw yes refl

pub shortest-more : (most n : ℕ) → 0 < most → 128 ≤ n → n < 128 ^ most → (shortest most n ≡ (n % 128 + 128) ∷ shortest (most - 1) (n / 128)) × (0 < most - 1) × (n / 128 < 128 ^ (most - 1))
unfolding shortest
shortest-more zero n h l b = absurd (omega arith)
shortest-more (suc zero) n h l b = absurd (omega arith)
shortest-more (suc (suc most)) n h l b =
    let no = le-ltb n 128 l in
    let k : suc (suc most) - 1 ≡ suc most = omega arith in
    let p : n < 128 ^ suc most * 128 = subst (λ (x : ℕ). n < x) (pow-suc 128 (suc most)) b in
    rw (no, k) (refl, omega arith, omega arith)

groups-shortest : (most n : ℕ) → 0 < most → n < 128 ^ most → AreGroups (shortest most n) × (value_of (shortest most n) ≡ n) × (length (shortest most n) ≤ most)
unfolding shortest
groups-shortest zero n h b = absurd (omega arith)
groups-shortest (suc most) n h b =
    elim (cases_lt n 128) [
      | inl small ↦ let yes = lt-ltb _ _ small in rw yes (small, omega arith, omega arith)
      | inr big ↦
          let no = le-ltb _ _ big in
          let more = shortest-more (suc most) n h big b in
          let k : suc most - 1 ≡ most = omega arith in
          let ih = groups-shortest most (n / 128) (rw k at more.1) (rw k at more.2) in
          rw no (groups-cons (n % 128 + 128) (shortest most (n / 128)) (omega arith) (omega arith) ih.0, omega (arith, ih.1), omega (arith, ih.2))
    ]

length-shortest : (most n : ℕ) (other : List ℕ) → 0 < most → n < 128 ^ most → AreGroups other → value_of other ≡ n → length (shortest most n) ≤ length other
unfolding shortest
length-shortest zero n other h b g v = absurd (omega arith)
length-shortest (suc most) n [] h b g v = absurd g
length-shortest (suc most) n (c ∷ []) h b g v =
    let small : n < 128 = omega (arith, v, g) in
    let yes = lt-ltb _ _ small in rw yes (omega arith)
length-shortest (suc most) n (c ∷ d ∷ cs) h b g v =
    elim (cases_lt n 128) [
      | inl small ↦ let yes = lt-ltb _ _ small in rw yes (omega arith)
      | inr big ↦
          let no = le-ltb _ _ big in
          let more = shortest-more (suc most) n h big b in
          let k : suc most - 1 ≡ most = omega arith in
          let high : value_of (d ∷ cs) ≡ n / 128 = omega (arith, v) in
          let ih = length-shortest most (n / 128) (d ∷ cs) (rw k at more.1) (rw k at more.2) g.2 high in
          rw no (omega (arith, ih))
    ]

pub is_shortest : (most max n : ℕ) → 0 < most → n ≤ max → max < 128 ^ most → IsShortest most max (shortest most n) n
is_shortest most max n h le fits =
    let g = groups-shortest most n h (omega arith) in
    record {
      is = record { groups = g.0; short = g.2; value = g.1; fits = le };
      least = λ other v. length-shortest most n other h (omega arith) v.groups v.value;
    }

-- the groups that are pushed, one by one
pub pushed : (most n : ℕ) (old one all : List ℕ) → 0 < most → 128 ≤ n → n < 128 ^ most → one ≡ old ++ (n % 128 + 128) ∷ []
    → ((k : ℕ) → 0 < k → n / 128 < 128 ^ k → all ≡ one ++ shortest k (n / 128)) → all ≡ old ++ shortest most n
pushed most n old one all h big b first rest =
    let more = shortest-more most n h big b in
    rest (most - 1) more.1 more.2
    ∙ ap (λ (x : List ℕ). x ++ shortest (most - 1) (n / 128)) first
    ∙ append_assoc old ((n % 128 + 128) ∷ []) (shortest (most - 1) (n / 128))
    ∙ ap (λ (x : List ℕ). old ++ x) (sym more.0)
