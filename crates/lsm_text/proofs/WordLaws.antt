-- A word is read as it is spelled, and spelled as it is read.
use Rattle.std.proofs.Common.{◌≡◌, ℕ, ◌/◌, ◌%◌, ◌^◌, ◌<◌, ◌≤◌, false, leb, List, [], ◌∷◌, length, codes, Some, None, Result, Ok, Err, refl, sym, ap, ◌∙◌, arith, inl, inr}
use Rattle.std.specs.Prelude.{◌⊎◌}
use Rattle.std.proofs.lemmas.Bool.{le-leb, leb-true, cases_Bool}
use Rattle.std.proofs.lemmas.Slice.Eq.{bytes_eq-Decides}
use Rattle.std.specs.Str.{bytes_eq}
use Rattle.hex.specs.Hex.{decode_of}
use Rattle.hex.specs.declared.error.FromHexError.{FromHexError}
use Rattle.hex.proofs.HexLemmas.{decode_of-ok, decode_of-odd}
use Rattle.lsm_text.specs.EntryList.{IsBytesWord}
use Rattle.lsm_text.specs.EntryReading.{few_of, bytes_at}

-- ---- bytes

few_of-none : (most : ℕ) (r : Result (List ℕ) FromHexError) → ((bs : List ℕ) → r ≡ Ok bs → (length bs ≡ 0) ⊎ (most < length bs))
    → few_of most r ≡ None
few_of-none most (Err e) h = refl
few_of-none most (Ok []) h = refl
few_of-none most (Ok (b ∷ bs)) h = elim (h (b ∷ bs) refl) [ inl none ↦ absurd (omega arith) | inr over ↦ grind (arith) ]

pub no_bytes : (most : ℕ) (word : List ℕ) → bytes_eq word (codes ".") ≡ false → (length word / 2 ≡ 0) ⊎ (most < length word / 2)
    → bytes_at most word ≡ None
unfolding bytes_at
no_bytes most word other h =
    rw other (few_of-none most (decode_of word) (λ bs e.
    let len = (decode_of-ok word bs e).2 in
    elim h [ inl short ↦ inl (omega arith) | inr long ↦ inr (omega arith) ]))

few_of-some : (most : ℕ) (r : Result (List ℕ) FromHexError) (bs : List ℕ) → few_of most r ≡ Some bs
    → (r ≡ Ok bs) × (0 < length bs) × (length bs ≤ most)
few_of-some most (Err e) bs h = absurd cc
few_of-some most (Ok []) bs h = absurd cc
few_of-some most (Ok (b ∷ rest)) bs h = elim (cases_Bool (leb (length (b ∷ rest)) most)) [
  | inl fits ↦
      let e : b ∷ rest ≡ bs = let s : Some (b ∷ rest) ≡ Some bs = rw fits at h in cc in
      rw (← e) (refl, omega arith, leb-true _ _ fits)
  | inr over ↦ let s : None ≡ Some bs = rw over at h in absurd cc
]

word_of : (word bs : List ℕ) → decode_of word ≡ Ok bs → 0 < length bs → IsBytesWord word bs
word_of word [] e h = absurd (omega arith)
word_of word (b ∷ bs) e h = e

pub bytes_takes : (most : ℕ) (word bs : List ℕ) → bytes_at most word ≡ Some bs → IsBytesWord word bs × (length bs ≤ most)
unfolding bytes_at
bytes_takes most word bs h = elim (cases_Bool (bytes_eq word (codes "."))) [
  | inl dot ↦
      let e : [] ≡ bs = let s : Some [] ≡ Some bs = rw dot at h in cc in
      rw (← e) ((bytes_eq-Decides word (codes ".")).0 dot, omega arith)
  | inr other ↦
      let f = few_of-some most (decode_of word) bs (rw other at h) in
      (word_of word bs f.0 f.1, f.2)
]

pub bytes_again : (most : ℕ) (word bs : List ℕ) → IsBytesWord word bs → length bs ≤ most → bytes_at most word ≡ Some bs
unfolding bytes_at
bytes_again most word [] h fits = let dot = (bytes_eq-Decides word (codes ".")).1 h in rw dot refl
bytes_again most word (b ∷ bs) h fits = elim (cases_Bool (bytes_eq word (codes "."))) [
  | inl dot ↦
      let is_dot : word ≡ codes "." = (bytes_eq-Decides word (codes ".")).0 dot in
      let odd : length word % 2 ≡ 1 = ap (λ (w : List ℕ). length w % 2) is_dot in
      let e : Err _ ≡ Ok (b ∷ bs) = sym (decode_of-odd word odd) ∙ h in
      absurd cc
  | inr other ↦ let few = le-leb _ _ fits in rw (other, h, few) refl
]

short_key : (word key : List ℕ) → length word < 2 ^ 64 → IsBytesWord word key → length key ≤ 18446744073709551615
short_key word [] h is = omega arith
short_key word (b ∷ bs) h is = let len = (decode_of-ok word (b ∷ bs) is).2 in omega (arith, len, h)

-- a word that spells a key is read as that key
pub key_again : (word key : List ℕ) → length word < 2 ^ 64 → IsBytesWord word key → bytes_at 18446744073709551615 word ≡ Some key
key_again word key h is = bytes_again 18446744073709551615 word key is (short_key word key h is)
