-- A sum that is taken element by element.
use Rattle.std.proofs.Common.{◌≡◌, ℕ, ◌+◌, ◌<◌, ◌≤◌, List, length, get_or, drop, sym, ap, arith}
use Rattle.std.specs.List.{sum_by}
use Rattle.std.proofs.lemmas.List.{drop_all}
use Rattle.std.proofs.lemmas.List.Sums.{sum_by-drop_more}

-- the term of one more element
pub sum_more : {X : Type 0} (f : X → ℕ) (xs : List X) (i : ℕ) (x : X) (before after : ℕ) → i < length xs → x ≡ get_or xs i x
    → before + sum_by f (drop i xs) ≡ sum_by f xs → after ≡ before + f x → after + sum_by f (drop (i + 1) xs) ≡ sum_by f xs
sum_more f xs i x before after h is so_far added =
    let one : f (get_or xs i x) ≡ f x = ap f (sym is) in
    omega (arith, sum_by-drop_more f xs i x h, one, so_far, added)

pub sum_all : {X : Type 0} (f : X → ℕ) (xs : List X) (i total : ℕ) → length xs ≤ i → total + sum_by f (drop i xs) ≡ sum_by f xs → total ≡ sum_by f xs
sum_all f xs i total h so_far =
    let none : sum_by f (drop i xs) ≡ 0 = ap (sum_by f) (drop_all i xs h) in
    omega (arith, none, so_far)
