-- A number that stands twice stands beside itself in ascending numbers.
use Rattle.std.proofs.Common.{◌≡◌, ℕ, suc, ◌+◌, ◌<◌, ◌≤◌, ◌==◌, Bool, true, false, cond, List, []}
use Rattle.std.proofs.Common.{◌∷◌, Some, None, refl, sym, ◌∙◌, ap, subst, inl, inr, arith}
use Rattle.std.specs.Ordering.{nat_cmp}
use Rattle.std.specs.List.Sorted.{IsPermutation, IsSorted, IsNonDecreasing}
use Rattle.std.proofs.lemmas.Bool.{eqb-true, eqb-false}
use Rattle.std.proofs.lemmas.List.Sums.{sum_by-cons}
use Rattle.std.proofs.lemmas.List.Sorted.{sum_by-IsPermutation, IsNonDecreasingBy-from_sort}
use Rattle.lsm_codec.specs.Lists.{Has}
use Rattle.lsm_codec.proofs.CallerLemmas.{contains_from}
use Rattle.lsm_version.specs.FileNumbers.{times, AreDistinct, IsLeastTwice, first_twice}

-- each number is at most each later one
abbrev Rises : List ℕ → Type 0
Rises [] = Unit {0}
Rises (a ∷ xs) = ((b : ℕ) → Has xs b → a ≤ b) × Rises xs

rises_from : (xs : List ℕ) → IsNonDecreasing xs → Rises xs
rises_from [] h = tt
rises_from (a ∷ xs) h = (
  λ b k. (let at = contains_from xs b k in let le = h 0 (suc at.0) b (omega arith)
      (let lt = at.1 in omega arith) in subst (λ (z : ℕ). a ≤ z) at.2 le),
  rises_from xs (λ i j d le lt. h (suc i) (suc j) d (omega arith) (omega arith)),
)

pub one_more : (n a : ℕ) (xs : List ℕ) → times n (a ∷ xs) ≡ cond (a == n) 1 0 + times n xs
one_more n a xs = sum_by-cons (λ m. cond (m == n) 1 0) a xs

yes_more : (n a : ℕ) (xs : List ℕ) → (a == n) ≡ true → times n (a ∷ xs) ≡ 1 + times n xs
yes_more n a xs t = one_more n a xs ∙ ap (λ (b : Bool). cond b 1 0 + times n xs) t

not_more : (n a : ℕ) (xs : List ℕ) → (a == n) ≡ false → times n (a ∷ xs) ≡ times n xs
not_more n a xs t = let e : times n (a ∷ xs) ≡ 0 + times n xs = one_more n a xs
    ∙ ap (λ (b : Bool). cond b 1 0 + times n xs) t in omega arith

none_above : (n : ℕ) (xs : List ℕ) → ((b : ℕ) → Has xs b → n < b) → times n xs ≡ 0
none_above n [] h = refl
none_above n (a ∷ xs) h = go (a == n) refl (none_above n xs (λ b k. h b (inr k)))
  where
    go : (t : Bool) → (a == n) ≡ t → times n xs ≡ 0 → times n (a ∷ xs) ≡ 0
    go true e rest = (let lt = h a (inl refl) in let same = eqb-true a n e in absurd (omega arith))
    go false e rest = not_more n a xs e ∙ rest

-- an entry below those behind it stands once at most
at_most_one : (n a : ℕ) (xs : List ℕ) → ((b : ℕ) → Has xs b → a < b) → times n xs ≤ 1
    → times n (a ∷ xs) ≤ 1
at_most_one n a xs above rest = go (a == n) refl
  where
    go : (t : Bool) → (a == n) ≡ t → times n (a ∷ xs) ≤ 1
    go true e =
        let same = eqb-true a n e in
        let zeros = none_above n xs (λ b k. (let lt = above b k in omega arith)) in
        let more = yes_more n a xs e in omega arith
    go false e = (let more = not_more n a xs e in omega arith)

strictly : (a b : ℕ) (rest : List ℕ) → Rises (a ∷ b ∷ rest) → (a == b) ≡ false → (c : ℕ)
    → Has (b ∷ rest) c → a < c
strictly a b rest r e c (inl s) = (let le = r.0 b (inl refl) in let ne = eqb-false a b e in omega
    arith)
strictly a b rest r e c (inr k) = (let le = r.0 b (inl refl) in let up = r.1.0 c k in let ne =
    eqb-false a b e in omega arith)

none_twice : (xs : List ℕ) → Rises xs → first_twice xs ≡ None → AreDistinct xs
none_twice [] r e n = omega arith
none_twice (a ∷ []) r e n = at_most_one n a [] (λ b k. absurd k) (omega arith)
none_twice (a ∷ b ∷ rest) r e n = go (a == b) refl e (λ h. none_twice (b ∷ rest) r.1 h n)
  where
    go : (t : Bool) → (a == b) ≡ t → cond t (Some a) (first_twice (b ∷ rest)) ≡ None
        → (first_twice (b ∷ rest) ≡ None → times n (b ∷ rest) ≤ 1) → times n (a ∷ b ∷ rest) ≤ 1
    go true f h few = absurd (cc h)
    go false f h few = at_most_one n a (b ∷ rest) (strictly a b rest r f) (few h)

least_twice : (xs : List ℕ) (m : ℕ) → Rises xs → first_twice xs ≡ Some m → IsLeastTwice xs m
least_twice [] m r e = absurd (cc e)
least_twice (a ∷ []) m r e = absurd (cc e)
least_twice (a ∷ b ∷ rest) m r e = go (a == b) refl e (λ h. least_twice (b ∷ rest) m r.1 h)
  where
    go : (t : Bool) → (a == b) ≡ t → cond t (Some a) (first_twice (b ∷ rest)) ≡ Some m
        → (first_twice (b ∷ rest) ≡ Some m → IsLeastTwice (b ∷ rest) m)
        → IsLeastTwice (a ∷ b ∷ rest) m
    go true f h then_later =
        let same : a ≡ m = cc h in
        let first : (a == m) ≡ true = subst (λ (z : ℕ). (a == z) ≡ true) (sym (eqb-true a b f)
        ∙ same) f in
        let second : (b == m) ≡ true = subst (λ (z : ℕ). (z == m) ≡ true) (eqb-true a b f) first in
        record {
          twice = (let x = yes_more m a (b ∷ rest) first in let y = yes_more m b rest second
              in omega arith);
          least = λ n lt. (let zeros = none_above n (a ∷ b ∷ rest)
              (λ c k. elim k [ inl s ↦ omega arith | inr l ↦ (let le = r.0 c l in omega arith) ])
              in omega arith);
        }
    go false f h then_later =
        let later = then_later h in
        record {
          twice = (let x = one_more m a (b ∷ rest) in let y = later.twice in omega arith);
          least = λ n lt. at_most_one n a (b ∷ rest) (strictly a b rest r f) (later.least n lt);
        }

-- ---- the same of the numbers before they were sorted

sorted_rises : (xs : List ℕ) → IsSorted nat_cmp xs → Rises xs
sorted_rises xs s = rises_from xs (IsNonDecreasingBy-from_sort (λ n. n) xs s)

same_times : (xs ys : List ℕ) → IsPermutation xs ys → (n : ℕ) → times n ys ≡ times n xs
same_times xs ys p n = sum_by-IsPermutation (λ m. cond (m == n) 1 0) xs ys p

pub distinct_numbers : (xs ys : List ℕ) → IsPermutation xs ys → IsSorted nat_cmp ys
    → first_twice ys ≡ None → AreDistinct xs
distinct_numbers xs ys p s e n = let same = same_times xs ys p n in let few = none_twice ys
    (sorted_rises ys s) e n in omega arith

pub double_number : (xs ys : List ℕ) (m : ℕ) → IsPermutation xs ys → IsSorted nat_cmp ys
    → first_twice ys ≡ Some m → IsLeastTwice xs m
double_number xs ys m p s e =
    let least = least_twice ys m (sorted_rises ys s) e in
    record {
      twice = (let same = same_times xs ys p m in let two = least.twice in omega arith);
      least = λ n lt. (let same = same_times xs ys p n in let few = least.least n lt in omega
          arith);
    }
