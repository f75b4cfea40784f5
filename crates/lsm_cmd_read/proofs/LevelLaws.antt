-- Loops over the tables of a level, and over levels.
use Rattle.std.proofs.Common.{◌≡◌, ℕ, zero, suc, ◌+◌, ◌<◌, ◌≤◌, List, [], ◌∷◌, ◌++◌, length, get_or}
use Rattle.std.proofs.Common.{map, drop, refl, sym, ap, ◌∙◌, subst, append_assoc, append-nil, arith}
use Rattle.std.specs.List.{flat_map, sum_by}
use Rattle.std.proofs.lemmas.List.{drop_more, drop_all}
use Rattle.std.proofs.lemmas.List.Sums.{sum_by-drop_more}
use Rattle.lsm_table.specs.Registry.{Table}
use Rattle.lsm_version.specs.Versions.{level_in}
use Rattle.lsm_cmd_read.specs.Listing.{count_of, level_texts}

-- the term of one more element
pub sum_more : {X : Type 0} (f : X → ℕ) (xs : List X) (i : ℕ) (x : X) (before after : ℕ)
    → i < length xs → x ≡ get_or xs i x
    → before + sum_by f (drop i xs) ≡ sum_by f xs → after ≡ before + f x
    → after + sum_by f (drop (i + 1) xs) ≡ sum_by f xs
sum_more f xs i x before after h is so_far added =
    let one : f (get_or xs i x) ≡ f x = ap f (sym is) in
    omega (arith, sum_by-drop_more f xs i x h, one, so_far, added)

pub sum_all : {X : Type 0} (f : X → ℕ) (xs : List X) (i total : ℕ) → length xs ≤ i
    → total + sum_by f (drop i xs) ≡ sum_by f xs → total ≡ sum_by f xs
sum_all f xs i total h so_far =
    let none : sum_by f (drop i xs) ≡ 0 = ap (sum_by f) (drop_all i xs h) in
    omega (arith, none, so_far)

-- the line of one more element
pub line_more : {X : Type 0} (f : X → List ℕ) (xs : List X) (i : ℕ) (x : X)
    (before after whole : List ℕ) → i < length xs → x ≡ get_or xs i x
    → before ++ flat_map f (drop i xs) ≡ whole → after ≡ before ++ f x
    → after ++ flat_map f (drop (i + 1) xs) ≡ whole
line_more f xs i x before after whole h is so_far added =
    let next : flat_map f (drop i xs) ≡ f x ++ flat_map f (drop (i + 1) xs) =
    ap (flat_map f) (drop_more xs i x h) ∙ ap (λ y. f y ++ flat_map f (drop (i + 1) xs))
    (sym is) in
    ap (λ (t : List ℕ). t ++ flat_map f (drop (i + 1) xs)) added
    ∙ append_assoc before (f x) (flat_map f (drop (i + 1) xs))
    ∙ ap (λ (t : List ℕ). before ++ t) (sym next) ∙ so_far

pub lines_all : {X : Type 0} (f : X → List ℕ) (xs : List X) (i : ℕ) (text whole : List ℕ)
    → length xs ≤ i → text ++ flat_map f (drop i xs) ≡ whole → text ≡ whole
lines_all f xs i text whole h so_far =
    sym (ap (λ ys. text ++ flat_map f ys) (drop_all i xs h) ∙ append-nil text) ∙ so_far

-- the text of one more level
pub level_more : (text : ℕ → List ℕ) (n : ℕ) (before after : List ℕ) → before ≡ level_texts text n
    → after ≡ before ++ text n → after ≡ level_texts text (n + 1)
unfolding level_texts
level_more text n before after so_far added =
    let next : n + 1 ≡ suc n = omega arith in
    subst (λ m. after ≡ level_texts text m) (sym next)
    (added ∙ ap (λ (t : List ℕ). t ++ text n) so_far)

pub levels_none : (text : ℕ → List ℕ) → [] ≡ level_texts text 0
unfolding level_texts
levels_none text = refl

-- the entries of a level, among those of each level
pub count_in_level : (levels : List (List Table)) (n : ℕ)
    → get_or (map count_of levels) n 0 ≡ count_of (level_in levels n)
count_in_level [] zero = refl
count_in_level [] (suc n) = refl
count_in_level (ts ∷ levels) zero = refl
count_in_level (ts ∷ levels) (suc n) = count_in_level levels n
