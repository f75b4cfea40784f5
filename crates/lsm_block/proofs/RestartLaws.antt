-- The restarts of a block: what is read is spelled so, and the other way round.
use Rattle.std.proofs.Common.{◌≡◌, ℕ, zero, suc, ◌+◌, ◌-◌, ◌*◌, ◌/◌, ◌^◌, ◌<◌, ◌≤◌, Bool, true, false, leb, ltb, eqb, List, [], ◌∷◌, ◌++◌, length, get_or, take, drop, Some, None, refl, sym, ap, ap₂, ◌∙◌, subst, append_assoc, arith, inl, inr}
use Rattle.std.specs.Prelude.{◌&&◌, ◌||◌, ◌⊎◌, Contains}
use Rattle.std.specs.List.{list_any, flat_map, AllByRecursion}
use Rattle.std.specs.Int.{w32, to_le_bytes, from_le_bytes}
use Rattle.std.proofs.lemmas.Bool.{cases_lt, le-leb, leb-true, lt-leb, lt-ltb, ltb-true, eqb-true, eq-eqb, and_parts}
use Rattle.std.proofs.lemmas.Nat.{le_bytes_4, from_le_bytes-to_le_bytes_4}
use Rattle.std.proofs.lemmas.List.{take_at, drop_at, take-append-drop, length-append, length-drop, length-take-le}
use Rattle.lsm_codec.proofs.CallerLemmas.{IsBytes}
use Rattle.lsm_block.specs.Block.{Rises}
use Rattle.lsm_block.specs.Reading.{words, parts_at, rises}
use Rattle.lsm_block.proofs.EntryLaws.{guard_some, IsBytes-take, IsBytes-drop}

-- ---- offsets among the starts

or_true : (a b : Bool) → (a || b) ≡ true → (a ≡ true) ⊎ (b ≡ true)
or_true true b e = inl refl
or_true false b e = inr e

true_or : (a b : Bool) → b ≡ true → (a || b) ≡ true
true_or true b e = refl
true_or false b e = e

contains-any : (xs : List ℕ) (o : ℕ) → list_any (λ s. eqb s o) xs ≡ true → Contains xs o
contains-any [] o e = absurd cc
contains-any (x ∷ xs) o e =
    elim (or_true (eqb x o) (list_any (λ s. eqb s o) xs) e) [
      | inl same ↦ (0, omega arith, eqb-true x o same)
      | inr later ↦ let c = contains-any xs o later in (suc c.0, omega (arith, c.1), c.2)
    ]

any-contains : (xs : List ℕ) (o : ℕ) → Contains xs o → list_any (λ s. eqb s o) xs ≡ true
any-contains [] o c = absurd (omega (arith, c.1))
any-contains (x ∷ xs) o (zero, h, is) = ap (λ (b : Bool). b || list_any (λ s. eqb s o) xs) (eq-eqb x o is)
any-contains (x ∷ xs) o (suc k, h, is) = true_or (eqb x o) (list_any (λ s. eqb s o) xs) (any-contains xs o (k, omega (arith, h), is))

abbrev pub Fit : List ℕ → Type 0
Fit rs = AllByRecursion (λ r. r < 2 ^ 32) rs

pub rises_takes : (starts : List ℕ) (before : ℕ) (rs : List ℕ) → rises None starts before rs ≡ true → Rises starts before rs
unfolding rises
rises_takes starts before [] e = tt
rises_takes starts before (r ∷ rs) e =
    let both = and_parts (ltb before r && list_any (λ s. eqb s r) starts) (rises None starts r rs) e in
    let parts = and_parts (ltb before r) (list_any (λ s. eqb s r) starts) both.0 in
    (ltb-true _ _ parts.0, contains-any starts r parts.1, rises_takes starts r rs both.1)

pub rises_again : (starts : List ℕ) (before : ℕ) (rs : List ℕ) → Rises starts before rs → rises None starts before rs ≡ true
unfolding rises
rises_again starts before [] e = refl
rises_again starts before (r ∷ rs) e =
    let more = lt-ltb before r e.0 in
    let named = any-contains starts r e.1 in
    rw (more, named) (rises_again starts r rs e.2)

-- ---- numbers of four bytes

word_fits : (bytes : List ℕ) → IsBytes bytes → from_le_bytes w32 bytes < 2 ^ 32
word_fits bytes fits = omega (arith, fits 0, fits 1, fits 2, fits 3)

pub words_fit : (count : ℕ) (bytes : List ℕ) → IsBytes bytes → Fit (words count bytes)
unfolding words
words_fit zero bytes fits = tt
words_fit (suc count) bytes fits = (word_fits (take 4 bytes) (IsBytes-take 4 bytes fits), words_fit count (drop 4 bytes) (IsBytes-drop 4 bytes fits))

pub length-words : (count : ℕ) (bytes : List ℕ) → length (words count bytes) ≡ count
unfolding words
length-words zero bytes = refl
length-words (suc count) bytes = ap suc (length-words count (drop 4 bytes))

pub words_takes : (count : ℕ) (bytes : List ℕ) → IsBytes bytes → length bytes ≡ 4 * count → flat_map (to_le_bytes w32) (words count bytes) ≡ bytes
unfolding words
words_takes zero [] fits len = refl
words_takes zero (b ∷ bs) fits len = absurd (omega arith)
words_takes (suc count) bytes fits len =
    let front : to_le_bytes w32 (from_le_bytes w32 (take 4 bytes)) ≡ take 4 bytes = le_bytes_4 (take 4 bytes) _ (length-take-le 4 bytes (omega arith)) (IsBytes-take 4 bytes fits) refl in
    let later = words_takes count (drop 4 bytes) (IsBytes-drop 4 bytes fits) (omega (arith, length-drop 4 bytes)) in
    ap₂ (λ (x y : List ℕ). x ++ y) front later ∙ take-append-drop 4 bytes

pub words_again : (rs : List ℕ) → Fit rs → words (length rs) (flat_map (to_le_bytes w32) rs) ≡ rs
unfolding words
words_again [] fits = refl
words_again (r ∷ rs) fits =
    let more = flat_map (to_le_bytes w32) rs in
    let t : take 4 (to_le_bytes w32 r ++ more) ≡ to_le_bytes w32 r = take_at (to_le_bytes w32 r) more 4 refl in
    let d : drop 4 (to_le_bytes w32 r ++ more) ≡ more = drop_at (to_le_bytes w32 r) more 4 refl in
    ap₂ (λ (x : ℕ) (y : List ℕ). x ∷ y) (ap (from_le_bytes w32) t ∙ from_le_bytes-to_le_bytes_4 r fits.0) (ap (words (length rs)) d ∙ words_again rs fits.1)

pub length-spelled : (rs : List ℕ) → length (flat_map (to_le_bytes w32) rs) ≡ 4 * length rs
length-spelled [] = refl
length-spelled (r ∷ rs) = omega (arith, length-append (to_le_bytes w32 r) (flat_map (to_le_bytes w32) rs), length-spelled rs)

-- ---- the tail

either_leb : (a b : ℕ) → (leb a b ≡ true) ⊎ (leb a b ≡ false)
either_leb a b = elim (cases_lt b a) [ inl lt ↦ inr (lt-leb _ _ lt) | inr le ↦ inl (le-leb _ _ le) ]

-- the text, the offsets and their number
pub record Tail (bytes text rs : List ℕ) : Type 0 where
  pub parts : bytes ≡ text ++ (flat_map (to_le_bytes w32) rs ++ to_le_bytes w32 (length rs))
  pub fits : Fit rs
  pub some : 0 < length rs
  pub count_fits : length rs < 2 ^ 32

pub tail_takes : (bytes text rs : List ℕ) → IsBytes bytes → parts_at bytes ≡ Some (text, rs) → Tail bytes text rs
unfolding parts_at
tail_takes bytes text rs fits e =
    let front = take (length bytes - 4) bytes in
    let last = drop (length bytes - 4) bytes in
    let count = from_le_bytes w32 last in
    elim (either_leb 4 (length bytes)) [
      | inr short ↦ let bad = rw short at e in absurd cc
      | inl long ↦
          let le : 4 ≤ length bytes = leb-true _ _ long in
          let whole = rw long at e in
          let text' = take (length front - 4 * count) front in
          let offsets = drop (length front - 4 * count) front in
          let g = guard_some (leb 1 count && leb (4 * count) (length front)) (text', words count offsets) (text, rs) whole in
          let tests = and_parts (leb 1 count) (leb (4 * count) (length front)) g.0 in
          let one : 1 ≤ count = leb-true _ _ tests.0 in
          let room : 4 * count ≤ length front = leb-true _ _ tests.1 in
          let len : length offsets ≡ 4 * count = omega (arith, length-drop (length front - 4 * count) front, room) in
          let fits_front = IsBytes-take (length bytes - 4) bytes fits in
          let fits_last = IsBytes-drop (length bytes - 4) bytes fits in
          let number : to_le_bytes w32 count ≡ last = le_bytes_4 last count (omega (arith, length-drop (length bytes - 4) bytes, le)) fits_last refl in
          let spelled = words_takes count offsets (IsBytes-drop (length front - 4 * count) front fits_front) len in
          let counted = length-words count offsets in
          let tail : Tail bytes text' (words count offsets) = record {
            parts = rw (spelled, counted, number)
                (sym (sym (append_assoc text' offsets last) ∙ ap (λ (x : List ℕ). x ++ last) (take-append-drop (length front - 4 * count) front) ∙ take-append-drop (length bytes - 4) bytes));
            fits = words_fit count offsets (IsBytes-drop (length front - 4 * count) front fits_front);
            some = omega (arith, counted, one);
            count_fits = omega (arith, counted, word_fits last fits_last);
          } in
          subst (λ (q : List ℕ × List ℕ). Tail bytes q.0 q.1) g.1 tail
    ]

pub tail_again : (bytes text rs : List ℕ) → Tail bytes text rs → parts_at bytes ≡ Some (text, rs)
unfolding parts_at
tail_again bytes text rs t =
    let spelled = flat_map (to_le_bytes w32) rs in
    let number = to_le_bytes w32 (length rs) in
    let parts : bytes ≡ (text ++ spelled) ++ number = t.parts ∙ sym (append_assoc text spelled number) in
    let n4 : length number ≡ 4 = refl in
    let len : length bytes ≡ length (text ++ spelled) + 4 = ap length parts ∙ length-append (text ++ spelled) number in
    let len2 : length (text ++ spelled) ≡ length text + 4 * length rs = length-append text spelled ∙ ap (λ (n : ℕ). length text + n) (length-spelled rs) in
    let k : length bytes - 4 ≡ length (text ++ spelled) = omega (arith, len) in
    let long : leb 4 (length bytes) ≡ true = le-leb _ _ (omega (arith, len)) in
    let front : take (length bytes - 4) bytes ≡ text ++ spelled = ap (λ (n : ℕ). take n bytes) k ∙ ap (take (length (text ++ spelled))) parts ∙ take_at (text ++ spelled) number (length (text ++ spelled)) refl in
    let last : drop (length bytes - 4) bytes ≡ number = ap (λ (n : ℕ). drop n bytes) k ∙ ap (drop (length (text ++ spelled))) parts ∙ drop_at (text ++ spelled) number (length (text ++ spelled)) refl in
    let count : from_le_bytes w32 (drop (length bytes - 4) bytes) ≡ length rs = ap (from_le_bytes w32) last ∙ from_le_bytes-to_le_bytes_4 (length rs) t.count_fits in
    let one : leb 1 (length rs) ≡ true = le-leb _ _ (omega (arith, t.some)) in
    let room : leb (4 * length rs) (length (text ++ spelled)) ≡ true = le-leb _ _ (omega (arith, len2)) in
    let at : length (text ++ spelled) - 4 * length rs ≡ length text = omega (arith, len2) in
    let t1 : take (length text) (text ++ spelled) ≡ text = take_at text spelled (length text) refl in
    let d1 : drop (length text) (text ++ spelled) ≡ spelled = drop_at text spelled (length text) refl in
    let again = words_again rs t.fits in
    rw (long, front, count, one, room, at, t1, d1, again) refl

-- ---- numbers of four bytes, one at a time

pub words-step : (bytes : List ℕ) → 4 ≤ length bytes → words (length bytes / 4) bytes ≡ from_le_bytes w32 (take 4 bytes) ∷ words (length (drop 4 bytes) / 4) (drop 4 bytes)
unfolding words
words-step bytes h =
    let len = length-drop 4 bytes in
    let k : length bytes / 4 ≡ suc (length (drop 4 bytes) / 4) = omega (arith, len) in
    ap (λ (n : ℕ). words n bytes) k

pub words-done : (bytes : List ℕ) → length bytes < 4 → words (length bytes / 4) bytes ≡ []
unfolding words
words-done bytes h =
    let k : length bytes / 4 ≡ 0 = omega arith in
    ap (λ (n : ℕ). words n bytes) k

pub front_word : (bytes : List ℕ) → 4 ≤ length bytes → from_le_bytes w32 (get_or bytes 0 0 ∷ get_or bytes 1 0 ∷ get_or bytes 2 0 ∷ get_or bytes 3 0 ∷ []) ≡ from_le_bytes w32 (take 4 bytes)
front_word [] h = absurd (omega arith)
front_word (a ∷ []) h = absurd (omega arith)
front_word (a ∷ b ∷ []) h = absurd (omega arith)
front_word (a ∷ b ∷ c ∷ []) h = absurd (omega arith)
front_word (a ∷ b ∷ c ∷ d ∷ rest) h = refl
