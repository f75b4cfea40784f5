-- Numbers that are looked up.
use Rattle.std.proofs.Common.{◌≡◌, ℕ, ◌<◌, ◌≤◌, List, length, get_or, ap, ◌∙◌, inl, inr, arith}
use Rattle.std.specs.Prelude.{Result, Ok, Err, MatchBool, is_ok}
use Rattle.std.specs.List.Sorted.{IsBinarySearchResult, IsStrictlyIncreasing}
use Rattle.std.specs.Ordering.{nat_cmp}
use Rattle.std.proofs.lemmas.Bool.{cases_eq, cases_lt}
use Rattle.std.proofs.lemmas.List.{get_or_default}
use Rattle.std.proofs.lemmas.List.Kept.{AllPairs-from_increasing}
use Rattle.std.proofs.lemmas.List.Sorted.{searched}
use Rattle.lsm_codec.specs.Lists.{Has}
use Rattle.lsm_codec.proofs.CallerLemmas.{contains_from, contains_says}

rises : (ns : List ℕ) → IsStrictlyIncreasing ns → (i j : ℕ) → i ≤ j → j < length ns → get_or ns i 0 ≤ get_or ns j 0
rises ns up i j le lt = elim (cases_eq i j) [
  | inl same ↦ (let e = ap (λ k. get_or ns k 0) same in omega arith)
  | inr other ↦ (let less = AllPairs-from_increasing ns up i j 0 (omega arith) lt in omega arith)
]

-- what a search by halves says of an ascending list
pub among_found : (ns : List ℕ) (n : ℕ) (r : Result ℕ ℕ) → IsBinarySearchResult (λ y. nat_cmp y n) ns r → IsStrictlyIncreasing ns
    → MatchBool (is_ok r) (Has ns n) (Has ns n → ⊥)
among_found ns n (Ok i) h up =
    let at = searched ns n (Ok i) h (rises ns up) in
    contains_says ns n (i, at.0, get_or_default ns i n 0 at.0 ∙ at.1)
among_found ns n (Err i) h up = λ has.
    let at = contains_from ns n has in
    let value : get_or ns at.0 0 ≡ n = get_or_default ns at.0 0 n at.1 ∙ at.2 in
    let parts = searched ns n (Err i) h (rises ns up) in
    elim (cases_lt at.0 i) [
      | inl below ↦ (let lt = parts.1 at.0 below in absurd (omega arith))
      | inr above ↦ (let lt = parts.2 at.0 above at.1 in absurd (omega arith))
    ]
