-- The files of a changed version.
use Rattle.std.proofs.Common.{◌≡◌, ℕ, zero, suc, ◌+◌, ◌<◌, ◌≤◌, length, map, List, [], ◌∷◌, Bool, true, false, not, refl, ap, sym, subst, ◌∙◌, inl, inr, arith}
use Rattle.std.specs.Prelude.{◌⊎◌, ◌==◌, Option}
use Rattle.std.specs.List.{filter, list_any, All}
use Rattle.std.proofs.lemmas.Bool.{cases_lt, eq-eqb, eqb-true}
use Rattle.lsm_codec.specs.Lists.{Has}
use Rattle.lsm_codec.proofs.CallerLemmas.{has_left, has_right, has_cases, has_filter, filter_has, any_at, any_says, all_at}
use Rattle.lsm_table.specs.Registry.{Table}
use Rattle.lsm_model.specs.Files.{File}
use Rattle.lsm_version.specs.Versions.{Levels, level_in, file_of, files_of, files_from, files, stands_before}
use Rattle.lsm_version.specs.Changes.{is_kept, placed_in, placed_all, coming, level_after, levels_after, changed, added_files}

pub files_has : (n : ℕ) (us : List Table) (F : File) → Has (files_of n us) F → (t : Table) × Has us t × (file_of n t ≡ F)
files_has n [] F h = absurd h
files_has n (u ∷ us) F (inl same) = (u, inl refl, same)
files_has n (u ∷ us) F (inr h) = (let r = files_has n us F h in (r.0, inr r.1, r.2))

pub level_of_files : (n : ℕ) (ts : List Table) (F : File) → Has (files_of n ts) F → F.level ≡ n
level_of_files n ts F h = (let r = files_has n ts F h in ap (λ (G : File). G.level) (sym r.2))

pub has_files : (n : ℕ) (us : List Table) (t : Table) → Has us t → Has (files_of n us) (file_of n t)
has_files n [] t h = absurd h
has_files n (u ∷ us) t (inl same) = inl (ap (file_of n) same)
has_files n (u ∷ us) t (inr h) = inr (has_files n us t h)

-- ---- one level

either : (p : Table → Bool) (us : List Table) (x : Table) → Has us x → Has (filter (λ u. not (p u)) us) x ⊎ Has (filter p us) x
either p us x h = go (p x) refl
  where
    go : (b : Bool) → p x ≡ b → Has (filter (λ u. not (p u)) us) x ⊎ Has (filter p us) x
    go true e = inr (has_filter p us x h e)
    go false e = inl (has_filter (λ u. not (p u)) us x h (ap not e))

pub placed_has : (t : Table) (us : List Table) (x : Table) → Has (placed_in t us) x → (t ≡ x) ⊎ Has us x
unfolding placed_in
placed_has t us x h =
    let p : Table → Bool = λ u. stands_before t u in
    let q : Table → Bool = λ u. not (stands_before t u) in
    elim (has_cases (filter q us) (t ∷ filter p us) x h) [
      | inl a ↦ inr (filter_has q us x a).0
      | inr b ↦ elim b [ inl same ↦ inl same | inr c ↦ inr (filter_has p us x c).0 ]
    ]

pub has_placed : (t : Table) (us : List Table) (x : Table) → (t ≡ x) ⊎ Has us x → Has (placed_in t us) x
unfolding placed_in
has_placed t us x h =
    let p : Table → Bool = λ u. stands_before t u in
    let q : Table → Bool = λ u. not (stands_before t u) in
    elim h [
      | inl same ↦ has_right (filter q us) (t ∷ filter p us) x (inl same)
      | inr k ↦ elim (either p us x k) [
        | inl a ↦ has_left (filter q us) (t ∷ filter p us) x a
        | inr b ↦ has_right (filter q us) (t ∷ filter p us) x (inr b)
      ]
    ]

pub all_has : (ts us : List Table) (x : Table) → Has (placed_all ts us) x → Has ts x ⊎ Has us x
all_has [] us x h = inr h
all_has (t ∷ ts) us x h = elim (all_has ts (placed_in t us) x h) [
  | inl a ↦ inl (inr a)
  | inr b ↦ elim (placed_has t us x b) [ inl same ↦ inl (inl same) | inr c ↦ inr c ]
]

pub has_all : (ts us : List Table) (x : Table) → Has ts x ⊎ Has us x → Has (placed_all ts us) x
has_all [] us x h = elim h [ inl a ↦ absurd a | inr b ↦ b ]
has_all (t ∷ ts) us x h = has_all ts (placed_in t us) x (elim h as (λ _. Has ts x ⊎ Has (placed_in t us) x) [
  | inl a ↦ elim a [ inl same ↦ inr (has_placed t us x (inl same)) | inr b ↦ inl b ]
  | inr c ↦ inr (has_placed t us x (inr c))
])

not_false : (b : Bool) → not b ≡ true → b ≡ true → ⊥
not_false true h k = cc
not_false false h k = cc

-- a table is kept where its number is none of the deleted ones
kept_says : (deleted : List ℕ) (t : Table) → is_kept deleted t ≡ true → Has deleted t.number → ⊥
kept_says deleted t h d = not_false (list_any (λ n. n == t.number) deleted) h (any_at (λ n. n == t.number) deleted t.number d (eq-eqb t.number t.number refl))

kept_from : (deleted : List ℕ) (t : Table) → (Has deleted t.number → ⊥) → is_kept deleted t ≡ true
kept_from deleted t h = go (list_any (λ n. n == t.number) deleted) refl
  where
    go : (b : Bool) → list_any (λ n. n == t.number) deleted ≡ b → not b ≡ true
    go true e = (let r = any_says (λ n. n == t.number) deleted e in absurd (h (subst (λ (m : ℕ). Has deleted m) (eqb-true r.0 t.number r.2) r.1)))
    go false e = refl

firsts_has : (xs : List (ℕ × Table)) (t : Table) → Has (map (λ a. a.1) xs) t → (a : ℕ × Table) × Has xs a × (a.1 ≡ t)
firsts_has [] t h = absurd h
firsts_has (a ∷ xs) t (inl same) = (a, inl refl, same)
firsts_has (a ∷ xs) t (inr h) = (let r = firsts_has xs t h in (r.0, inr r.1, r.2))

has_firsts : (xs : List (ℕ × Table)) (a : ℕ × Table) → Has xs a → Has (map (λ a. a.1) xs) a.1
has_firsts [] a h = absurd h
has_firsts (b ∷ xs) a (inl same) = inl (ap (λ (c : ℕ × Table). c.1) same)
has_firsts (b ∷ xs) a (inr h) = inr (has_firsts xs a h)

coming_has : (n : ℕ) (added : List (ℕ × Table)) (t : Table) → Has (coming n added) t → (a : ℕ × Table) × Has added a × (a.0 ≡ n) × (a.1 ≡ t)
coming_has n added t h =
    let r = firsts_has (filter (λ a. a.0 == n) added) t h in
    let s = filter_has (λ a. a.0 == n) added r.0 r.1 in
    (r.0, s.0, eqb-true r.0.0 n s.1, r.2)

has_coming : (n : ℕ) (added : List (ℕ × Table)) (a : ℕ × Table) → Has added a → a.0 ≡ n → Has (coming n added) a.1
has_coming n added a h same = has_firsts (filter (λ a. a.0 == n) added) a (has_filter (λ a. a.0 == n) added a h (eq-eqb a.0 n same))

-- ---- all levels

-- an added table as a file, and the files of tables that stay
abbrev IsAdded : List (ℕ × Table) → File → Type 0
IsAdded added F = (a : ℕ × Table) × Has added a × (file_of a.0 a.1 ≡ F)

abbrev Stays : List ℕ → ℕ → List (List Table) → File → Type 0
Stays deleted n levels F = Has (files_from n levels) F × (Has deleted F.number → ⊥)

level_has : (deleted : List ℕ) (added : List (ℕ × Table)) (n : ℕ) (ts : List Table) (F : File) → Has (files_of n (level_after deleted added n ts)) F
    → (Has (files_of n ts) F × (Has deleted F.number → ⊥)) ⊎ IsAdded added F
unfolding level_after
level_has deleted added n ts F h =
    let r = files_has n (placed_all (coming n added) (filter (is_kept deleted) ts)) F h in
    elim (all_has (coming n added) (filter (is_kept deleted) ts) r.0 r.1) [
      | inl a ↦ inr (let s = coming_has n added r.0 a in (s.0, s.1, ap (λ m. file_of m s.0.1) s.2 ∙ ap (file_of n) s.3 ∙ r.2))
      | inr b ↦ inl (let s = filter_has (is_kept deleted) ts r.0 b in (
        subst (λ (G : File). Has (files_of n ts) G) r.2 (has_files n ts r.0 s.0),
        λ d. kept_says deleted r.0 s.1 (subst (λ (G : File). Has deleted G.number) (sym r.2) d),
      ))
    ]

stays_level : (deleted : List ℕ) (added : List (ℕ × Table)) (n : ℕ) (ts : List Table) (F : File) → Has (files_of n ts) F → (Has deleted F.number → ⊥)
    → Has (files_of n (level_after deleted added n ts)) F
unfolding level_after
stays_level deleted added n ts F h d =
    let r = files_has n ts F h in
    let kept = kept_from deleted r.0 (λ k. d (subst (λ (G : File). Has deleted G.number) r.2 k)) in
    subst (λ (G : File). Has (files_of n (placed_all (coming n added) (filter (is_kept deleted) ts))) G) r.2
    (has_files n (placed_all (coming n added) (filter (is_kept deleted) ts)) r.0
    (has_all (coming n added) (filter (is_kept deleted) ts) r.0 (inr (has_filter (is_kept deleted) ts r.0 r.1 kept))))

added_level : (deleted : List ℕ) (added : List (ℕ × Table)) (n : ℕ) (ts : List Table) (a : ℕ × Table) → Has added a → a.0 ≡ n
    → Has (files_of n (level_after deleted added n ts)) (file_of a.0 a.1)
unfolding level_after
added_level deleted added n ts a h same =
    subst (λ (m : ℕ). Has (files_of n (placed_all (coming n added) (filter (is_kept deleted) ts))) (file_of m a.1)) (sym same)
    (has_files n (placed_all (coming n added) (filter (is_kept deleted) ts)) a.1
    (has_all (coming n added) (filter (is_kept deleted) ts) a.1 (inl (has_coming n added a h same))))

after_has : (deleted : List ℕ) (added : List (ℕ × Table)) (n : ℕ) (levels : List (List Table)) (F : File) → Has (files_from n (levels_after deleted added n levels)) F
    → Stays deleted n levels F ⊎ IsAdded added F
after_has deleted added n [] F h = absurd h
after_has deleted added n (ts ∷ levels) F h =
    elim (has_cases (files_of n (level_after deleted added n ts)) (files_from (suc n) (levels_after deleted added (suc n) levels)) F h) [
      | inl a ↦ elim (level_has deleted added n ts F a) [ inl s ↦ inl (has_left (files_of n ts) (files_from (suc n) levels) F s.0, s.1) | inr b ↦ inr b ]
      | inr c ↦ elim (after_has deleted added (suc n) levels F c) [ inl s ↦ inl (has_right (files_of n ts) (files_from (suc n) levels) F s.0, s.1) | inr b ↦ inr b ]
    ]

stays_after : (deleted : List ℕ) (added : List (ℕ × Table)) (n : ℕ) (levels : List (List Table)) (F : File) → Has (files_from n levels) F → (Has deleted F.number → ⊥)
    → Has (files_from n (levels_after deleted added n levels)) F
stays_after deleted added n [] F h d = absurd h
stays_after deleted added n (ts ∷ levels) F h d =
    elim (has_cases (files_of n ts) (files_from (suc n) levels) F h) [
      | inl a ↦ has_left (files_of n (level_after deleted added n ts)) (files_from (suc n) (levels_after deleted added (suc n) levels)) F (stays_level deleted added n ts F a d)
      | inr b ↦ has_right (files_of n (level_after deleted added n ts)) (files_from (suc n) (levels_after deleted added (suc n) levels)) F (stays_after deleted added (suc n) levels F b d)
    ]

added_after : (deleted : List ℕ) (added : List (ℕ × Table)) (n : ℕ) (levels : List (List Table)) (a : ℕ × Table) → Has added a → n ≤ a.0 → a.0 < n + length levels
    → Has (files_from n (levels_after deleted added n levels)) (file_of a.0 a.1)
added_after deleted added n [] a h low high = absurd (omega arith)
added_after deleted added n (ts ∷ levels) a h low high = elim (cases_lt n a.0) [
  | inl later ↦ has_right (files_of n (level_after deleted added n ts)) (files_from (suc n) (levels_after deleted added (suc n) levels)) (file_of a.0 a.1)
      (added_after deleted added (suc n) levels a h (omega arith) (omega arith))
  | inr here ↦ has_left (files_of n (level_after deleted added n ts)) (files_from (suc n) (levels_after deleted added (suc n) levels)) (file_of a.0 a.1)
      (added_level deleted added n ts a h (omega arith))
]

files_added : (xs : List (ℕ × Table)) (F : File) → Has (added_files xs) F → IsAdded xs F
files_added [] F h = absurd h
files_added (a ∷ xs) F (inl same) = (a, inl refl, same)
files_added (a ∷ xs) F (inr h) = (let r = files_added xs F h in (r.0, inr r.1, r.2))

added_are : (xs : List (ℕ × Table)) (a : ℕ × Table) → Has xs a → Has (added_files xs) (file_of a.0 a.1)
added_are [] a h = absurd h
added_are (b ∷ xs) a (inl same) = inl (ap (λ (c : ℕ × Table). file_of c.0 c.1) same)
added_are (b ∷ xs) a (inr h) = inr (added_are xs a h)

pub changed_has : (deleted : List ℕ) (added : List (ℕ × Table)) (pointer : Option (ℕ × List ℕ)) (last : ℕ) (v : Levels) (F : File)
    → Has (files (changed deleted added pointer last v)) F → (Has (files v) F × (Has deleted F.number → ⊥)) ⊎ Has (added_files added) F
unfolding changed
changed_has deleted added pointer last v F h = elim (after_has deleted added 0 v.tables F h) [
  | inl s ↦ inl s
  | inr a ↦ inr (subst (λ (G : File). Has (added_files added) G) a.2 (added_are added a.0 a.1))
]

pub has_changed : (deleted : List ℕ) (added : List (ℕ × Table)) (pointer : Option (ℕ × List ℕ)) (last : ℕ) (v : Levels) (F : File) → length v.tables ≡ 7 → All (λ a. a.0 ≤ 6) added
    → (Has (files v) F × (Has deleted F.number → ⊥)) ⊎ Has (added_files added) F → Has (files (changed deleted added pointer last v)) F
unfolding changed
has_changed deleted added pointer last v F seven low h = elim h [
  | inl s ↦ stays_after deleted added 0 v.tables F s.0 s.1
  | inr k ↦ (let a = files_added added F k in subst (λ (G : File). Has (files_from 0 (levels_after deleted added 0 v.tables)) G) a.2
      (added_after deleted added 0 v.tables a.0 a.1 (omega arith) (let six = all_at (λ (b : ℕ × Table). b.0 ≤ 6) added a.0 low a.1 in omega arith)))
]

-- ---- table by table

abbrev IsThere : List ℕ → List (ℕ × Table) → ℕ → List Table → Table → Type 0
IsThere deleted added n ts t = (Has ts t × (Has deleted t.number → ⊥)) ⊎ Has added (n, t)

elsewhere : (deleted : List ℕ) (added : List (ℕ × Table)) (m n : ℕ) (ts : List Table) (t : Table) → m ≡ n → IsThere deleted added m ts t → IsThere deleted added n ts t
elsewhere deleted added m n ts t same h = subst (λ (k : ℕ). IsThere deleted added k ts t) same h

table_from : (deleted : List ℕ) (added : List (ℕ × Table)) (n : ℕ) (ts : List Table) (t : Table) → Has (level_after deleted added n ts) t → IsThere deleted added n ts t
unfolding level_after
table_from deleted added n ts t h = elim (all_has (coming n added) (filter (is_kept deleted) ts) t h) [
  | inl a ↦ inr (let s = coming_has n added t a in subst (λ (m : ℕ). Has added (m, t)) s.2 (subst (λ (u : Table). Has added (s.0.0, u)) s.3 s.1))
  | inr b ↦ inl (let s = filter_has (is_kept deleted) ts t b in (s.0, λ d. kept_says deleted t s.1 d))
]

table_in : (deleted : List ℕ) (added : List (ℕ × Table)) (n : ℕ) (ts : List Table) (t : Table) → IsThere deleted added n ts t → Has (level_after deleted added n ts) t
unfolding level_after
table_in deleted added n ts t h = has_all (coming n added) (filter (is_kept deleted) ts) t (elim h as (λ _. Has (coming n added) t ⊎ Has (filter (is_kept deleted) ts) t) [
  | inl s ↦ inr (has_filter (is_kept deleted) ts t s.0 (kept_from deleted t s.1))
  | inr a ↦ inl (has_coming n added (n, t) a refl)
])

tables_from : (deleted : List ℕ) (added : List (ℕ × Table)) (m n : ℕ) (levels : List (List Table)) (t : Table) → Has (level_in (levels_after deleted added m levels) n) t
    → IsThere deleted added (m + n) (level_in levels n) t
tables_from deleted added m n [] t h = absurd h
tables_from deleted added m zero (ts ∷ levels) t h = elsewhere deleted added m (m + 0) ts t (omega arith) (table_from deleted added m ts t h)
tables_from deleted added m (suc n) (ts ∷ levels) t h =
    elsewhere deleted added (suc m + n) (m + suc n) (level_in levels n) t (omega arith) (tables_from deleted added (suc m) n levels t h)

tables_in : (deleted : List ℕ) (added : List (ℕ × Table)) (m n : ℕ) (levels : List (List Table)) (t : Table) → n < length levels → IsThere deleted added (m + n) (level_in levels n) t
    → Has (level_in (levels_after deleted added m levels) n) t
tables_in deleted added m n [] t lt h = absurd (omega arith)
tables_in deleted added m zero (ts ∷ levels) t lt h = table_in deleted added m ts t (elsewhere deleted added (m + 0) m ts t (omega arith) h)
tables_in deleted added m (suc n) (ts ∷ levels) t lt h =
    tables_in deleted added (suc m) n levels t (omega arith) (elsewhere deleted added (m + suc n) (suc m + n) (level_in levels n) t (omega arith) h)

pub changed_from : (deleted : List ℕ) (added : List (ℕ × Table)) (pointer : Option (ℕ × List ℕ)) (last : ℕ) (v : Levels) (n : ℕ) (t : Table)
    → Has (level_in (changed deleted added pointer last v).tables n) t → (Has (level_in v.tables n) t × (Has deleted t.number → ⊥)) ⊎ Has added (n, t)
unfolding changed
changed_from deleted added pointer last v n t h = elsewhere deleted added (0 + n) n (level_in v.tables n) t (omega arith) (tables_from deleted added 0 n v.tables t h)

pub changed_in : (deleted : List ℕ) (added : List (ℕ × Table)) (pointer : Option (ℕ × List ℕ)) (last : ℕ) (v : Levels) (n : ℕ) (t : Table) → n < length v.tables
    → (Has (level_in v.tables n) t × (Has deleted t.number → ⊥)) ⊎ Has added (n, t) → Has (level_in (changed deleted added pointer last v).tables n) t
unfolding changed
changed_in deleted added pointer last v n t lt h = tables_in deleted added 0 n v.tables t lt (elsewhere deleted added n (0 + n) (level_in v.tables n) t (omega arith) h)

pub changed_last : (deleted : List ℕ) (added : List (ℕ × Table)) (pointer : Option (ℕ × List ℕ)) (last : ℕ) (v : Levels) (n : ℕ) → n ≤ last → n ≤ (changed deleted added pointer last v).last
unfolding changed
changed_last deleted added pointer last v n h = h
