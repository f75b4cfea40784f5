-- How often a number stands in the levels of a version, before a change and after it.
use Rattle.std.proofs.Common.{◌≡◌, ℕ, suc, ◌+◌, ◌<◌, ◌≤◌, ◌==◌, Bool, true, false, cond, List, [], ◌∷◌, ◌++◌, length, map, refl, sym, ◌∙◌, ap, inl, inr, arith}
use Rattle.std.specs.Prelude.{◌⊎◌, not}
use Rattle.std.specs.List.{filter, list_any}
use Rattle.std.proofs.lemmas.Bool.{eqb-true, eq-eqb}
use Rattle.std.proofs.lemmas.List.Sums.{sum_by-cons, sum_by-append}
use Rattle.std.proofs.lemmas.List.{map-append}
use Rattle.lsm_codec.specs.Lists.{Has}
use Rattle.lsm_codec.proofs.CallerLemmas.{any_at}
use Rattle.lsm_table.specs.Registry.{Table}
use Rattle.lsm_version.specs.Changes.{coming, is_kept, level_after, levels_after, placed_all, placed_in}
use Rattle.lsm_version.specs.FileNumbers.{times, AreDistinct}
use Rattle.lsm_version.specs.Versions.{files_from, files_of, level_in, stands_before}

-- ---- one list of numbers

-- how often the number is n
abbrev pub once : ℕ → ℕ → ℕ
once a n = cond (a == n) 1 0

pub times_more : (n a : ℕ) (xs : List ℕ) → times n (a ∷ xs) ≡ once a n + times n xs
times_more n a xs = sum_by-cons (λ m. cond (m == n) 1 0) a xs

times_append : (n : ℕ) (xs ys : List ℕ) → times n (xs ++ ys) ≡ times n xs + times n ys
times_append n xs ys = sum_by-append (λ m. cond (m == n) 1 0) xs ys

once_same : (a n : ℕ) → a ≡ n → once a n ≡ 1
once_same a n e = ap (λ (b : Bool). cond b 1 0) (eq-eqb a n e)

pub at_once : (n : ℕ) (xs : List ℕ) → Has xs n → 1 ≤ times n xs
at_once n [] h = absurd h
at_once n (a ∷ xs) (inl e) = let m = times_more n a xs in let s = once_same a n e in omega arith
at_once n (a ∷ xs) (inr h) = let m = times_more n a xs in let s = at_once n xs h in omega arith

once_cases : (a n : ℕ) → (once a n ≡ 0) ⊎ (a ≡ n)
once_cases a n = go (a == n) refl
  where
    go : (b : Bool) → (a == n) ≡ b → (◌≡◌ {A = ℕ} (cond b 1 0) 0) ⊎ (a ≡ n)
    go true e = inr (eqb-true a n e)
    go false e = inl refl

pub none_or_has : (n : ℕ) (xs : List ℕ) → (times n xs ≡ 0) ⊎ Has xs n
none_or_has n [] = inl refl
none_or_has n (a ∷ xs) = elim (once_cases a n) [
  | inr e ↦ inr (inl e)
  | inl none ↦ elim (none_or_has n xs) [ inl rest ↦ inl (let m = times_more n a xs in omega arith) | inr h ↦ inr (inr h) ]
]

-- a number at the front of distinct ones is none of the others, which are distinct too
pub front_alone : (a : ℕ) (xs : List ℕ) → AreDistinct (a ∷ xs) → Has xs a → ⊥
front_alone a xs d h = let few = d a in let m = times_more a a xs in let s = once_same a a refl in let k = at_once a xs h in omega arith

pub tail_distinct : (a : ℕ) (xs : List ℕ) → AreDistinct (a ∷ xs) → AreDistinct xs
tail_distinct a xs d n = let few = d n in let m = times_more n a xs in omega arith

-- ---- the tables of a level

abbrev pub numbers_at : List Table → List ℕ
numbers_at ts = map (λ t. t.number) ts

abbrev pub tally : ℕ → List Table → ℕ
tally n ts = times n (numbers_at ts)

tally_more : (n : ℕ) (t : Table) (ts : List Table) → tally n (t ∷ ts) ≡ once t.number n + tally n ts
tally_more n t ts = times_more n t.number (numbers_at ts)

tally_append : (n : ℕ) (ts us : List Table) → tally n (ts ++ us) ≡ tally n ts + tally n us
tally_append n [] us = omega arith
tally_append n (t ∷ ts) us = let a = tally_more n t (ts ++ us) in let b = tally_more n t ts in let c = tally_append n ts us in omega arith

tally_parts : (n : ℕ) (p : Table → Bool) (us : List Table) → tally n (filter (λ u. not (p u)) us) + tally n (filter p us) ≡ tally n us
tally_parts n p [] = refl
tally_parts n p (u ∷ us) = go (p u) (tally_parts n p us)
  where
    go : (b : Bool) → tally n (filter (λ x. not (p x)) us) + tally n (filter p us) ≡ tally n us
        → tally n (cond (not b) (u ∷ filter (λ x. not (p x)) us) (filter (λ x. not (p x)) us)) + tally n (cond b (u ∷ filter p us) (filter p us)) ≡ tally n (u ∷ us)
    go true rest = let a = tally_more n u (filter p us) in let b = tally_more n u us in omega arith
    go false rest = let a = tally_more n u (filter (λ x. not (p x)) us) in let b = tally_more n u us in omega arith

tally_placed : (n : ℕ) (t : Table) (us : List Table) → tally n (placed_in t us) ≡ once t.number n + tally n us
unfolding placed_in
tally_placed n t us =
    let p : Table → Bool = λ u. stands_before t u in
    let front : List Table = filter (λ u. not (p u)) us in
    let back : List Table = filter p us in
    let a = tally_append n front (t ∷ back) in
    let b = tally_more n t back in
    let c = tally_parts n p us in
    omega arith

tally_placed_all : (n : ℕ) (ts us : List Table) → tally n (placed_all ts us) ≡ tally n ts + tally n us
tally_placed_all n [] us = omega arith
tally_placed_all n (t ∷ ts) us = let a = tally_placed_all n ts (placed_in t us) in let b = tally_placed n t us in let c = tally_more n t ts in omega arith

tally_level : (n : ℕ) (deleted : List ℕ) (added : List (ℕ × Table)) (level : ℕ) (ts : List Table)
    → tally n (level_after deleted added level ts) ≡ tally n (coming level added) + tally n (filter (is_kept deleted) ts)
unfolding level_after
tally_level n deleted added level ts = tally_placed_all n (coming level added) (filter (is_kept deleted) ts)

filter_few : (n : ℕ) (p : Table → Bool) (us : List Table) → tally n (filter p us) ≤ tally n us
filter_few n p us = let a = tally_parts n p us in omega arith

-- no table of these has the number
pub tally_none : (n : ℕ) (ts : List Table) → ((t : Table) → Has ts t → t.number ≡ n → ⊥) → tally n ts ≡ 0
tally_none n [] never = refl
tally_none n (t ∷ ts) never = elim (once_cases t.number n) [
  | inr e ↦ absurd (never t (inl refl) e)
  | inl none ↦ let a = tally_more n t ts in let b = tally_none n ts (λ u h. never u (inr h)) in omega arith
]

-- ---- all levels

abbrev pub total : ℕ → List (List Table) → ℕ
total n [] = 0
total n (ts ∷ levels) = tally n ts + total n levels

level_numbers : (level : ℕ) (ts : List Table) → map (λ F. F.number) (files_of level ts) ≡ numbers_at ts
level_numbers level [] = refl
level_numbers level (t ∷ ts) = ap (λ ns. t.number ∷ ns) (level_numbers level ts)

pub numbers_total : (n level : ℕ) (levels : List (List Table)) → times n (map (λ F. F.number) (files_from level levels)) ≡ total n levels
numbers_total n level [] = refl
numbers_total n level (ts ∷ levels) =
    ap (times n) (map-append (λ F. F.number) (files_of level ts) (files_from (suc level) levels))
    ∙ times_append n (map (λ F. F.number) (files_of level ts)) (map (λ F. F.number) (files_from (suc level) levels))
    ∙ ap (λ ns. times n ns + times n (map (λ F. F.number) (files_from (suc level) levels))) (level_numbers level ts)
    ∙ ap (λ k. tally n ts + k) (numbers_total n (suc level) levels)

-- what stays of the levels, and what comes to them from this level on
abbrev staying : List ℕ → List (List Table) → List (List Table)
staying deleted [] = []
staying deleted (ts ∷ levels) = filter (is_kept deleted) ts ∷ staying deleted levels

abbrev coming_total : ℕ → List (ℕ × Table) → ℕ → List (List Table) → ℕ
coming_total n added level [] = 0
coming_total n added level (ts ∷ levels) = tally n (coming level added) + coming_total n added (suc level) levels

after_total : (n : ℕ) (deleted : List ℕ) (added : List (ℕ × Table)) (level : ℕ) (levels : List (List Table))
    → total n (levels_after deleted added level levels) ≡ coming_total n added level levels + total n (staying deleted levels)
after_total n deleted added level [] = refl
after_total n deleted added level (ts ∷ levels) = let a = tally_level n deleted added level ts in let b = after_total n deleted added (suc level) levels in omega arith

coming_other : (n : ℕ) (a : ℕ × Table) (added : List (ℕ × Table)) (level : ℕ) → a.0 < level → tally n (coming level (a ∷ added)) ≡ tally n (coming level added)
coming_other n a added level lt = go (a.0 == level) refl
  where
    go : (b : Bool) → (a.0 == level) ≡ b → tally n (map (λ (x : ℕ × Table). x.1) (cond b (a ∷ filter (λ x. x.0 == level) added) (filter (λ x. x.0 == level) added))) ≡ tally n (coming level added)
    go true e = let same = eqb-true a.0 level e in absurd (omega arith)
    go false e = refl

coming_at : (n : ℕ) (a : ℕ × Table) (added : List (ℕ × Table)) (level : ℕ) → tally n (coming level (a ∷ added)) ≡ cond (a.0 == level) (once a.1.number n) 0 + tally n (coming level added)
coming_at n a added level = go (a.0 == level)
  where
    go : (b : Bool) → tally n (map (λ (x : ℕ × Table). x.1) (cond b (a ∷ filter (λ x. x.0 == level) added) (filter (λ x. x.0 == level) added))) ≡ cond b (once a.1.number n) 0 + tally n (coming level added)
    go true = tally_more n a.1 (coming level added)
    go false = omega arith

past_level : (n : ℕ) (a : ℕ × Table) (added : List (ℕ × Table)) (level : ℕ) (levels : List (List Table)) → a.0 < level
    → coming_total n (a ∷ added) level levels ≡ coming_total n added level levels
past_level n a added level [] lt = refl
past_level n a added level (ts ∷ levels) lt = let x = coming_other n a added level lt in let y = past_level n a added (suc level) levels (omega arith) in omega arith

one_coming : (n : ℕ) (a : ℕ × Table) (added : List (ℕ × Table)) (level : ℕ) (levels : List (List Table))
    → coming_total n (a ∷ added) level levels ≤ once a.1.number n + coming_total n added level levels
one_coming n a added level [] = omega arith
one_coming n a added level (ts ∷ levels) = go (a.0 == level) refl (coming_at n a added level) (one_coming n a added (suc level) levels)
  where
    go : (b : Bool) → (a.0 == level) ≡ b → tally n (coming level (a ∷ added)) ≡ cond b (once a.1.number n) 0 + tally n (coming level added)
        → coming_total n (a ∷ added) (suc level) levels ≤ once a.1.number n + coming_total n added (suc level) levels
        → coming_total n (a ∷ added) level (ts ∷ levels) ≤ once a.1.number n + coming_total n added level (ts ∷ levels)
    go true e at rest = let same = eqb-true a.0 level e in let later = past_level n a added (suc level) levels (omega arith) in omega arith
    go false e at rest = omega arith

pub few_coming : (n : ℕ) (added : List (ℕ × Table)) (level : ℕ) (levels : List (List Table)) → coming_total n added level levels ≤ times n (map (λ a. a.1.number) added)
few_coming n [] level levels = none level levels
  where
    none : (level : ℕ) (levels : List (List Table)) → coming_total n [] level levels ≤ 0
    none level [] = omega arith
    none level (ts ∷ levels) = let rest = none (suc level) levels in omega arith
few_coming n (a ∷ added) level levels =
    let x = one_coming n a added level levels in
    let y = few_coming n added level levels in
    let z = times_more n a.1.number (map (λ x. x.1.number) added) in
    omega arith

few_staying : (n : ℕ) (deleted : List ℕ) (levels : List (List Table)) → total n (staying deleted levels) ≤ total n levels
few_staying n deleted [] = omega arith
few_staying n deleted (ts ∷ levels) = let a = filter_few n (is_kept deleted) ts in let b = few_staying n deleted levels in omega arith

not_kept : (deleted : List ℕ) (t : Table) → is_kept deleted t ≡ true → Has deleted t.number → ⊥
not_kept deleted t k h = go (list_any (λ n. n == t.number) deleted) k (any_at (λ n. n == t.number) deleted t.number h (eq-eqb t.number t.number refl))
  where
    go : (b : Bool) → not b ≡ true → b ≡ true → ⊥
    go true k e = cc
    go false k e = cc

-- where no table that stays has the number
none_staying : (n : ℕ) (deleted : List ℕ) (levels : List (List Table)) → ((m : ℕ) (u : Table) → Has (level_in levels m) u → (Has deleted u.number → ⊥) → u.number ≡ n → ⊥)
    → total n (staying deleted levels) ≡ 0
none_staying n deleted [] never = refl
none_staying n deleted (ts ∷ levels) never =
    let a = tally_none n (filter (is_kept deleted) ts) (λ u h e. let r = Rattle.lsm_codec.proofs.CallerLemmas.filter_has (is_kept deleted) ts u h in never 0 u r.0 (not_kept deleted u r.1) e) in
    let b = none_staying n deleted levels (λ m u h. never (suc m) u h) in
    omega arith

-- After a change no number stands twice, where none did before, the tables that come have different ones, and none of a table that stays.
pub after_distinct : (deleted : List ℕ) (added : List (ℕ × Table)) (levels : List (List Table)) → AreDistinct (map (λ F. F.number) (files_from 0 levels))
    → AreDistinct (map (λ a. a.1.number) added)
    → ((n m : ℕ) (t u : Table) → Has added (n, t) → Has (level_in levels m) u → (Has deleted u.number → ⊥) → u.number ≡ t.number → ⊥)
    → AreDistinct (map (λ F. F.number) (files_from 0 (levels_after deleted added 0 levels)))
after_distinct deleted added levels own apart fresh n =
    let after = numbers_total n 0 (levels_after deleted added 0 levels) in
    let before = numbers_total n 0 levels in
    let sum = after_total n deleted added 0 levels in
    let come = few_coming n added 0 levels in
    let few = own n in
    let lone = apart n in
    elim (none_or_has n (map (λ a. a.1.number) added)) [
      | inl none ↦ (let stay = few_staying n deleted levels in omega arith)
      | inr h ↦ (let a = number_of added h in let stay = none_staying n deleted levels (λ m u k gone e. fresh a.0.0 m a.0.1 u a.1 k gone (e ∙ sym a.2)) in omega arith)
    ]
  where
    number_of : (xs : List (ℕ × Table)) → Has (map (λ a. a.1.number) xs) n → (a : ℕ × Table) × Has xs a × (a.1.number ≡ n)
    number_of [] h = absurd h
    number_of (a ∷ xs) (inl e) = (a, inl refl, e)
    number_of (a ∷ xs) (inr h) = let r = number_of xs h in (r.0, inr r.1, r.2)

pub length-levels_after : (deleted : List ℕ) (added : List (ℕ × Table)) (level : ℕ) (levels : List (List Table)) → length (levels_after deleted added level levels) ≡ length levels
length-levels_after deleted added level [] = refl
length-levels_after deleted added level (ts ∷ levels) = ap suc (length-levels_after deleted added (suc level) levels)
