-- The inputs of a plan have different numbers, where the files of the version have.
use Rattle.std.proofs.Common.{◌≡◌, ℕ, zero, suc, ◌+◌, ◌≤◌, ◌==◌, Bool, true, false, cond, List, [], ◌∷◌, ◌++◌, map, refl, sym, ◌∙◌, ap, subst, inl, inr, arith}
use Rattle.std.specs.List.{filter}
use Rattle.std.proofs.lemmas.Bool.{eq-eqb}
use Rattle.std.proofs.lemmas.List.{map-append}
use Rattle.std.proofs.lemmas.List.Sums.{sum_by-append, sum_by-cons}
use Rattle.lsm_codec.specs.Lists.{Has}
use Rattle.lsm_table.specs.Registry.{Table}
use Rattle.lsm_model.specs.Files.{File}
use Rattle.lsm_version.specs.FileNumbers.{AreDistinct, times}
use Rattle.lsm_version.specs.Versions.{Levels, files_from, files_of, level_in, numbers_in}
use Rattle.lsm_merge.specs.Inputs.{numbers_of}
use Rattle.lsm_picker.specs.TablePlans.{ArePicked}

-- each file has another number than those after it
abbrev pub Differ : List File → Type 0
Differ [] = Unit {0}
Differ (F ∷ Fs) = ((G : File) → Has Fs G → F.number ≡ G.number → ⊥) × Differ Fs

names : List File → List ℕ
names Fs = map (λ (F : File). F.number) Fs

-- ---- how often a number stands

one_more : (n a : ℕ) (ns : List ℕ) → times n (a ∷ ns) ≡ cond (a == n) 1 0 + times n ns
one_more n a ns = sum_by-cons (λ m. cond (m == n) 1 0) a ns

times_append : (n : ℕ) (xs ys : List ℕ) → times n (xs ++ ys) ≡ times n xs + times n ys
times_append n xs ys = sum_by-append (λ m. cond (m == n) 1 0) xs ys

stands : (n : ℕ) (ns : List ℕ) → Has ns n → 1 ≤ times n ns
stands n [] h = absurd h
stands n (a ∷ ns) (inl e) =
    let here : (a == n) ≡ true = eq-eqb a n e in
    let more : times n (a ∷ ns) ≡ 1 + times n ns = one_more n a ns ∙ ap (λ (b : Bool). cond b 1 0 + times n ns) here in omega arith
stands n (a ∷ ns) (inr h) = let more = one_more n a ns in let rest = stands n ns h in omega arith

twice : (n a : ℕ) (ns : List ℕ) → AreDistinct (a ∷ ns) → a ≡ n → Has ns n → ⊥
twice n a ns d e h =
    let here : (a == n) ≡ true = eq-eqb a n e in
    let more : times n (a ∷ ns) ≡ 1 + times n ns = one_more n a ns ∙ ap (λ (b : Bool). cond b 1 0 + times n ns) here in
    let rest = stands n ns h in let few = d n in absurd (omega arith)

distinct_rest : (a : ℕ) (ns : List ℕ) → AreDistinct (a ∷ ns) → AreDistinct ns
distinct_rest a ns d n = let more = one_more n a ns in let few = d n in omega arith

has_name : (Fs : List File) (G : File) → Has Fs G → Has (names Fs) G.number
unfolding names
has_name [] G h = absurd h
has_name (F ∷ Fs) G (inl e) = inl (ap (λ (X : File). X.number) e)
has_name (F ∷ Fs) G (inr h) = inr (has_name Fs G h)

distinct_differ : (Fs : List File) → AreDistinct (names Fs) → Differ Fs
unfolding names
distinct_differ [] d = tt
distinct_differ (F ∷ Fs) d = (
  λ G h e. twice G.number F.number (names Fs) d e (has_name Fs G h),
  distinct_differ Fs (distinct_rest F.number (names Fs) d),
)

-- ---- the numbers of a level among those of all

level_names : (level : ℕ) (ts : List Table) → names (files_of level ts) ≡ numbers_of ts
unfolding names
level_names level [] = refl
level_names level (t ∷ ts) = ap (λ (ns : List ℕ). t.number ∷ ns) (level_names level ts)

first_level : (m level : ℕ) (ts : List Table) (rest : List (List Table)) → times m (names (files_from level (ts ∷ rest))) ≡ times m (numbers_of ts) + times m (names (files_from (suc level) rest))
unfolding names
first_level m level ts rest =
    ap (times m) (map-append (λ (F : File). F.number) (files_of level ts) (files_from (suc level) rest))
    ∙ times_append m (names (files_of level ts)) (names (files_from (suc level) rest))
    ∙ ap (λ (ns : List ℕ). times m ns + times m (names (files_from (suc level) rest))) (level_names level ts)

one_level : (m level : ℕ) (levels : List (List Table)) (n : ℕ) → times m (numbers_of (level_in levels n)) ≤ times m (names (files_from level levels))
one_level m level [] n = (let none : times m [] ≡ 0 = refl in omega arith)
one_level m level (ts ∷ rest) zero = let parts = first_level m level ts rest in omega arith
one_level m level (ts ∷ rest) (suc n) = let parts = first_level m level ts rest in let more = one_level m (suc level) rest n in omega arith

two_levels : (m level : ℕ) (levels : List (List Table)) (n : ℕ)
    → times m (numbers_of (level_in levels n)) + times m (numbers_of (level_in levels (suc n))) ≤ times m (names (files_from level levels))
two_levels m level [] n = (let none : times m [] ≡ 0 = refl in omega arith)
two_levels m level (ts ∷ rest) zero = let parts = first_level m level ts rest in let more = one_level m (suc level) rest 0 in omega arith
two_levels m level (ts ∷ rest) (suc n) = let parts = first_level m level ts rest in let more = two_levels m (suc level) rest n in omega arith

-- ---- inputs

times_filter : (n : ℕ) (pick : Table → Bool) (ts : List Table) → times n (numbers_of (filter pick ts)) ≤ times n (numbers_of ts)
times_filter n pick [] = (let none : times n [] ≡ 0 = refl in omega arith)
times_filter n pick (t ∷ ts) = go (pick t) (times_filter n pick ts)
  where
    go : (b : Bool) → times n (numbers_of (filter pick ts)) ≤ times n (numbers_of ts) → times n (numbers_of (cond b (t ∷ filter pick ts) (filter pick ts))) ≤ times n (numbers_of (t ∷ ts))
    go true le = let some = one_more n t.number (numbers_of (filter pick ts)) in let all = one_more n t.number (numbers_of ts) in omega arith
    go false le = let all = one_more n t.number (numbers_of ts) in omega arith

times_picked : (n : ℕ) (us ts : List Table) → ArePicked us ts → times n (numbers_of us) ≤ times n (numbers_of ts)
times_picked n us ts p = subst (λ (l : List Table). times n (numbers_of l) ≤ times n (numbers_of ts)) (sym p.1) (times_filter n p.0 ts)

pub inputs_differ : (v : Levels) (n : ℕ) (upper lower : List Table) → AreDistinct (numbers_in v) → ArePicked upper (level_in v.tables n) → ArePicked lower (level_in v.tables (suc n))
    → Differ (files_of n upper ++ files_of (suc n) lower)
unfolding names
inputs_differ v n upper lower d a b = distinct_differ (files_of n upper ++ files_of (suc n) lower) (λ m. few m)
  where
    few : (m : ℕ) → times m (names (files_of n upper ++ files_of (suc n) lower)) ≤ 1
    few m =
        let parts : times m (names (files_of n upper ++ files_of (suc n) lower)) ≡ times m (numbers_of upper) + times m (numbers_of lower) =
        ap (times m) (map-append (λ (F : File). F.number) (files_of n upper) (files_of (suc n) lower))
        ∙ times_append m (names (files_of n upper)) (names (files_of (suc n) lower))
        ∙ ap (λ (ns : List ℕ). times m ns + times m (names (files_of (suc n) lower))) (level_names n upper)
        ∙ ap (λ (ns : List ℕ). times m (numbers_of upper) + times m ns) (level_names (suc n) lower) in
        let up = times_picked m upper (level_in v.tables n) a in
        let low = times_picked m lower (level_in v.tables (suc n)) b in
        let all = two_levels m 0 v.tables n in
        let one : times m (names (files_from 0 v.tables)) ≤ 1 = d m in
        omega arith

pub differ_left : (Fs Gs : List File) → Differ (Fs ++ Gs) → Differ Fs
differ_left [] Gs d = tt
differ_left (F ∷ Fs) Gs d = (λ G h e. d.0 G (go Fs G h) e, differ_left Fs Gs d.1)
  where
    go : (Hs : List File) (G : File) → Has Hs G → Has (Hs ++ Gs) G
    go [] G h = absurd h
    go (H ∷ Hs) G (inl e) = inl e
    go (H ∷ Hs) G (inr h) = inr (go Hs G h)

pub differ_right : (Fs Gs : List File) → Differ (Fs ++ Gs) → Differ Gs
differ_right [] Gs d = d
differ_right (F ∷ Fs) Gs d = differ_right Fs Gs d.1
