-- How many numbers are greater is seen in ascending numbers from where the first of those stands.
use Rattle.std.proofs.Common.{◌≡◌, ℕ, zero, suc, ◌+◌, ◌-◌, ◌<◌, ◌≤◌, Bool, true, false, cond, List, [], ◌∷◌, map, length, get_or, leb, leb-true, leb-false, lt-ltb, le-ltb, refl, sym, ◌∙◌, ap, arith}
use Rattle.std.specs.Prelude.{nat_lt}
use Rattle.std.specs.List.{count_by}
use Rattle.std.specs.List.Sorted.{IsPartitionPoint}
use Rattle.std.proofs.lemmas.List.Sorted.{sum_by-IsPermutation}
use Rattle.std.proofs.lemmas.List.Sums.{sum_by-cons}
use Rattle.lsm_table.specs.Registry.{Table}
use Rattle.lsm_query.specs.Depths.{AreNumbersOf, newer_count}

-- how many numbers are greater
abbrev greater_count : List ℕ → ℕ → ℕ
greater_count numbers number = count_by (λ n. nat_lt number n) numbers

greater_first : (number n : ℕ) (ns : List ℕ) → number < n → greater_count (n ∷ ns) number ≡ 1 + greater_count ns number
greater_first number n ns lt = sum_by-cons (λ m. cond (nat_lt number m) 1 0) n ns ∙ ap (λ (b : Bool). cond b 1 0 + greater_count ns number) (lt-ltb number n lt)

not_greater_first : (number n : ℕ) (ns : List ℕ) → n ≤ number → greater_count (n ∷ ns) number ≡ 0 + greater_count ns number
not_greater_first number n ns le = sum_by-cons (λ m. cond (nat_lt number m) 1 0) n ns ∙ ap (λ (b : Bool). cond b 1 0 + greater_count ns number) (le-ltb number n le)

-- where those from i on are greater, and the others are not
greater_from : (number : ℕ) (ns : List ℕ) (i : ℕ) → i ≤ length ns → ((k d : ℕ) → k < i → get_or ns k d ≤ number) → ((k d : ℕ) → i ≤ k → k < length ns → number < get_or ns k d)
    → greater_count ns number + i ≡ length ns
greater_from number [] i le low high = omega arith
greater_from number (n ∷ ns) zero le low high =
    let first = greater_first number n ns (high 0 0 (omega arith) (omega arith)) in
    let rest = greater_from number ns zero (omega arith) (λ k d lt. absurd (omega arith)) (λ k d up lt. high (suc k) d (omega arith) (omega arith)) in
    omega arith
greater_from number (n ∷ ns) (suc i) le low high =
    let first = not_greater_first number n ns (low 0 0 (omega arith)) in
    let rest = greater_from number ns i (omega arith) (λ k d lt. low (suc k) d (omega arith)) (λ k d up lt. high (suc k) d (omega arith) (omega arith)) in
    omega arith

greater_after : (number : ℕ) (ns : List ℕ) (i : ℕ) → i ≤ length ns → IsPartitionPoint (λ n. leb n number ≡ true) (λ n. leb n number ≡ false) ns i → length ns - i ≡ greater_count ns number
greater_after number ns i le point =
    let all = greater_from number ns i le (λ k d lt. leb-true _ _ (point.0 k d (omega arith) lt)) (λ k d up lt. leb-false _ _ (point.1 k d up lt)) in omega arith

-- ---- the numbers of tables

newer_numbers : (ts : List Table) (number : ℕ) → greater_count (map (λ t. t.number) ts) number ≡ newer_count ts number
newer_numbers [] number = refl
newer_numbers (t ∷ ts) number =
    sum_by-cons (λ n. cond (nat_lt number n) 1 0) t.number (map (λ u. u.number) ts) ∙ ap (λ rest. cond (nat_lt number t.number) 1 0 + rest) (newer_numbers ts number)
    ∙ sym (sum_by-cons (λ u. cond (nat_lt number u.number) 1 0) t ts)

pub newer_after : (ts : List Table) (numbers : List ℕ) (number i : ℕ) → AreNumbersOf ts numbers → i ≤ length numbers
    → IsPartitionPoint (λ n. leb n number ≡ true) (λ n. leb n number ≡ false) numbers i → length numbers - i ≡ newer_count ts number
newer_after ts numbers number i own le point =
    greater_after number numbers i le point ∙ sum_by-IsPermutation (λ n. cond (nat_lt number n) 1 0) (map (λ t. t.number) ts) numbers own.same ∙ newer_numbers ts number
