-- Depths as numbers rise with the depths of files.
use Rattle.std.proofs.Common.{◌≡◌, ℕ, zero, suc, ◌+◌, ◌<◌, ◌≤◌, Bool, true, false, cond, List, [], ◌∷◌, length, refl, ◌∙◌, ap, inl, inr, arith}
use Rattle.std.specs.Prelude.{nat_lt}
use Rattle.std.proofs.lemmas.Bool.{ltb-true, ltb-false, cases_lt, cases_eq}
use Rattle.std.proofs.lemmas.List.Sums.{sum_by-cons, count_by-le-length}
use Rattle.lsm_codec.specs.Lists.{Has}
use Rattle.lsm_table.specs.Registry.{Table}
use Rattle.lsm_model.specs.Files.{File, Shallower}
use Rattle.lsm_query.specs.Depths.{newer_count, depth_at, depth_of}

-- ---- depths

more_than : (n m : ℕ) (fs : List Table) → n ≤ m → newer_count fs m ≤ newer_count fs n
more_than n m [] le = omega arith
more_than n m (f ∷ fs) le =
    let x = count_more n f fs in let y = count_more m f fs in let rest = more_than n m fs le in
    let one = go (nat_lt m f.number) (nat_lt n f.number) refl refl in omega arith
  where
    go : (a b : Bool) → nat_lt m f.number ≡ a → nat_lt n f.number ≡ b → cond a 1 0 ≤ cond b 1 0
    go false b e g = omega arith
    go true true e g = omega arith
    go true false e g = (let lt = ltb-true m f.number e in let ge = ltb-false n f.number g in absurd (omega arith))

    count_more : (k : ℕ) (f : Table) (fs : List Table) → newer_count (f ∷ fs) k ≡ cond (nat_lt k f.number) 1 0 + newer_count fs k
    count_more k f fs = sum_by-cons (λ g. cond (nat_lt k g.number) 1 0) f fs

count_one : (k : ℕ) (f : Table) (fs : List Table) → newer_count (f ∷ fs) k ≡ cond (nat_lt k f.number) 1 0 + newer_count fs k
count_one k f fs = sum_by-cons (λ g. cond (nat_lt k g.number) 1 0) f fs

-- the greatest number first: a file of a lesser number lies deeper
fewer_than : (n m : ℕ) (fs : List Table) (f : Table) → Has fs f → f.number ≡ m → n < m → newer_count fs m < newer_count fs n
fewer_than n m [] f h e lt = absurd h
fewer_than n m (g ∷ fs) f (inl s) e lt =
    let same : g.number ≡ m = ap (λ (x : Table). x.number) s ∙ e in
    let x = count_one n g fs in let y = count_one m g fs in let rest = more_than n m fs (omega arith) in
    let one = go (nat_lt m g.number) (nat_lt n g.number) refl refl same in omega arith
  where
    go : (a b : Bool) → nat_lt m g.number ≡ a → nat_lt n g.number ≡ b → g.number ≡ m → cond a 1 0 < cond b 1 0
    go false true p q same = omega arith
    go false false p q same = (let ge = ltb-false n g.number q in absurd (omega arith))
    go true b p q same = (let gt = ltb-true m g.number p in absurd (omega arith))
fewer_than n m (g ∷ fs) f (inr h) e lt =
    let x = count_one n g fs in let y = count_one m g fs in let rest = fewer_than n m fs f h e lt in
    let one = go (nat_lt m g.number) (nat_lt n g.number) refl refl in omega arith
  where
    go : (a b : Bool) → nat_lt m g.number ≡ a → nat_lt n g.number ≡ b → cond a 1 0 ≤ cond b 1 0
    go false b p q = omega arith
    go true true p q = omega arith
    go true false p q = (let gt = ltb-true m g.number p in let ge = ltb-false n g.number q in absurd (omega arith))

depth_zero : (shallow : List Table) (level number : ℕ) → level ≡ 0 → depth_at shallow level number ≡ newer_count shallow number
depth_zero shallow zero number e = refl
depth_zero shallow (suc level) number e = absurd (omega arith)

pub depth_more : (shallow : List Table) (level number : ℕ) → 1 ≤ level → depth_at shallow level number ≡ length shallow + level
depth_more shallow zero number pos = absurd (omega arith)
depth_more shallow (suc level) number pos = refl

few : (shallow : List Table) (number : ℕ) → newer_count shallow number ≤ length shallow
few shallow number = count_by-le-length (λ f. nat_lt number f.number) shallow

pub shallower_less : (shallow : List Table) (F G : File) → (F.level ≡ 0 → (t : Table) × Has shallow t × (t.number ≡ F.number)) → Shallower F G → depth_of shallow F < depth_of shallow G
shallower_less shallow F G among (inr s) =
    let f = among s.0 in
    let x = depth_zero shallow F.level F.number s.0 in let y = depth_zero shallow G.level G.number s.1 in
    let lt = fewer_than G.number F.number shallow f.0 f.1 f.2 s.2 in omega arith
shallower_less shallow F G among (inl lt) =
    let y = depth_more shallow G.level G.number (omega arith) in
    elim (cases_eq F.level 0) [
      | inl z ↦ (let x = depth_zero shallow F.level F.number z in let most = few shallow F.number in omega arith)
      | inr p ↦ (let x = depth_more shallow F.level F.number (omega arith) in omega arith)
    ]

pub less_shallower : (shallow : List Table) (F G : File) → depth_of shallow F < depth_of shallow G → Shallower F G
less_shallower shallow F G lt =
    elim (cases_eq F.level 0) [
      | inl z ↦ elim (cases_eq G.level 0) [
        | inl w ↦ elim (cases_lt G.number F.number) [
          | inl n ↦ inr (z, w, n)
          | inr n ↦ (let x = depth_zero shallow F.level F.number z in let y = depth_zero shallow G.level G.number w in let le = more_than F.number G.number shallow n in absurd (omega arith))
        ]
        | inr q ↦ inl (omega arith)
      ]
      | inr p ↦ elim (cases_eq G.level 0) [
        | inl w ↦ (let x = depth_more shallow F.level F.number (omega arith) in let y = depth_zero shallow G.level G.number w in let most = few shallow G.number in absurd (omega arith))
        | inr q ↦ (let x = depth_more shallow F.level F.number (omega arith) in let y = depth_more shallow G.level G.number (omega arith) in inl (omega arith))
      ]
    ]
