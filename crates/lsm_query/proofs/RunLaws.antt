-- The sources of a merge of all levels.
use Rattle.std.proofs.Common.{◌≡◌, ℕ, zero, suc, ◌+◌, ◌<◌, ◌≤◌, ◌==◌, Bool, true, false, cond, List, [], ◌∷◌, ◌++◌, length, get_or, take, drop, Option, Some, None, refl, sym, ◌∙◌, ap, subst, inl, inr, arith, append-nil}
use Rattle.std.specs.Prelude.{◌⊎◌}
use Rattle.std.proofs.lemmas.Bool.{cases_eq, eqb-true, eqb-false}
use Rattle.std.proofs.lemmas.List.{take_all}
use Rattle.lsm_codec.specs.Lists.{Has}
use Rattle.lsm_codec.specs.Entries.{Entry}
use Rattle.lsm_codec.specs.Keys.{UserKey}
use Rattle.lsm_codec.proofs.CallerLemmas.{has_left, has_right, has_cases, contains_from}
use Rattle.lsm_table.specs.Registry.{Table}
use Rattle.lsm_table.specs.HeldTable.{entries_in}
use Rattle.lsm_model.specs.Files.{File, Before, IsAhead}
use Rattle.lsm_model.specs.Merging.{Placed, placed_at, goes_first, IsSorted, IsOrdered, AreOrdered}
use Rattle.lsm_model.proofs.CallerLemmas.{ascending_sorted, sorted_ordered, before_not_first}
use Rattle.lsm_query.specs.Depths.{newer_count, depth_of}
use Rattle.lsm_version.specs.Reads.{IsSoundLevel}
use Rattle.lsm_iterators.specs.Runs.{is_number, once}
use Rattle.lsm_query.specs.Runs.{AddsRun, AreRunsFrom, AreRunsOf, IsAbove, entries_after, run_of}
use Rattle.lsm_version.specs.Versions.{IsWhole, file_of, files_of, files_from, level_in}
use Rattle.lsm_version.proofs.CallerLemmas.{files_has, has_files, file_in, inside, of_level, each_after, ahead_or_same, files_push, push_left, push_last, took, sound_part}
use Rattle.lsm_iterators.proofs.CallerLemmas.{least}
use Rattle.lsm_query.proofs.DepthOrder.{depth_more}

-- ---- parts of a level

-- what comes later is the same file, or stands behind
abbrev pub Follows : ℕ → List Table → Type 0
Follows n [] = Unit {0}
Follows n (t ∷ ts) = ((u : Table) → Has ts u → (t.number ≡ u.number → file_of n t ≡ file_of n u) × ((t.number ≡ u.number → ⊥) → IsAhead (file_of n t) (file_of n u))) × Follows n ts

pub follows_from : (n : ℕ) (ts : List Table) → 1 ≤ n → IsSoundLevel n ts → Follows n ts
follows_from n [] pos s = tt
follows_from n (t ∷ ts) pos s = (
  λ u h. (
    λ same. s.lawful.numbers (file_of n t) (file_of n u) (inl refl) (inr (has_files n ts u h)) same,
    λ other. (let at = contains_from ts u h in let lt = at.1 in
        elim (ahead_or_same n (t ∷ ts) pos s 0 (suc at.0) u (omega arith) (omega arith)) [
          | inl same ↦ absurd (other (ap (λ (F : File). F.number) same ∙ ap (λ (x : Table). x.number) at.2))
          | inr ahead ↦ subst (λ (x : Table). IsAhead (file_of n t) (file_of n x)) at.2 ahead
        ]),
  ),
  follows_from n ts pos (sound_part n (t ∷ ts) ts (λ u h. inr h) (each_after (t ∷ ts) s.order).1 s),
)

-- ---- a table stands once

pub once_part : (last : Option ℕ) (ts : List Table) (u : Table) → Has (once last ts) u → Has ts u
once_part last [] u h = absurd h
once_part last (t ∷ ts) u h = go (is_number last t.number) (once_part last ts u) (once_part (Some t.number) ts u) h
  where
    go : (b : Bool) → (Has (once last ts) u → Has ts u) → (Has (once (Some t.number) ts) u → Has ts u) → Has (cond b (once last ts) (t ∷ once (Some t.number) ts)) u → Has (t ∷ ts) u
    go true skip on k = inr (skip k)
    go false skip on (inl e) = inl e
    go false skip on (inr k) = inr (on k)

number_says : (last : Option ℕ) (n : ℕ) → is_number last n ≡ true → last ≡ Some n
number_says None n e = absurd (cc e)
number_says (Some own) n e = ap (λ (m : ℕ). Some m) (eqb-true own n e)

-- each table has one of its number there, or the number came before
pub once_all : (last : Option ℕ) (ts : List Table) (u : Table) → Has ts u → (last ≡ Some u.number) ⊎ ((v : Table) × Has (once last ts) v × (v.number ≡ u.number))
once_all last [] u h = absurd h
once_all last (t ∷ ts) u h = go (is_number last t.number) refl h (once_all last ts u) (once_all (Some t.number) ts u)
  where
    go : (b : Bool) → is_number last t.number ≡ b → Has (t ∷ ts) u
        → (Has ts u → (last ≡ Some u.number) ⊎ ((v : Table) × Has (once last ts) v × (v.number ≡ u.number)))
        → (Has ts u → (Some t.number ≡ Some u.number) ⊎ ((v : Table) × Has (once (Some t.number) ts) v × (v.number ≡ u.number)))
        → (last ≡ Some u.number) ⊎ ((v : Table) × Has (cond b (once last ts) (t ∷ once (Some t.number) ts)) v × (v.number ≡ u.number))
    go true e (inl same) skip on = inl (number_says last t.number e ∙ ap (λ (x : Table). Some x.number) same)
    go true e (inr k) skip on = skip k
    go false e (inl same) skip on = inr (t, inl refl, ap (λ (x : Table). x.number) same)
    go false e (inr k) skip on = elim (on k) [
      | inl own ↦ inr (t, inl refl, cc own)
      | inr (v, hv, is) ↦ inr (v, inr hv, is)
    ]

some_entry : (n : ℕ) (t : Table) → IsWhole t → (e : Entry) × Has (file_of n t).entries e
some_entry n t w = let f = w.entries.first in (f.0, subst (λ (es : List Entry). Has es f.0) (sym f.2) (inl refl))

before_first : (x y : Entry) → Before x y → goes_first x y ≡ true
unfolding goes_first
before_first x y h = rw h refl

not_both : (n : ℕ) (t u : Table) → IsWhole t → IsWhole u → IsAhead (file_of n t) (file_of n u) → IsAhead (file_of n u) (file_of n t) → ⊥
not_both n t u wt wu a b =
    let x = some_entry n t wt in
    let y = some_entry n u wu in
    absurd (cc (before_first x.0 y.0 (a x.0 y.0 x.1 y.1), before_not_first y.0 x.0 (b y.0 x.0 y.1 x.1)))

pub no_again : (n : ℕ) (t : Table) (ts : List Table) (u : Table) → Follows n (t ∷ ts) → ((x : Table) → Has (t ∷ ts) x → IsWhole x) → Has (once (Some t.number) ts) u → u.number ≡ t.number → ⊥
no_again n t [] u f w h same = absurd h
no_again n t (v ∷ vs) u f w h same =
    go (t.number == v.number) refl h (λ k. no_again n t vs u ((λ x hx. f.0 x (inr hx)), f.1.1) (λ x hx. w x (elim hx [ inl e ↦ inl e | inr r ↦ inr (inr r) ])) k same)
  where
    go : (b : Bool) → (t.number == v.number) ≡ b → Has (cond b (once (Some t.number) vs) (v ∷ once (Some v.number) vs)) u → (Has (once (Some t.number) vs) u → ⊥) → ⊥
    go true e k more = more k
    go false e (inl is) more = (let ne = eqb-false t.number v.number e in let eq = ap (λ (x : Table). x.number) is in absurd (omega arith))
    go false e (inr k) more =
        let ne = eqb-false t.number v.number e in
        let there : Has vs u = once_part (Some v.number) vs u k in
        let first : IsAhead (file_of n t) (file_of n v) = (f.0 v (inl refl)).1 (λ z. absurd (omega arith)) in
        let second : IsAhead (file_of n v) (file_of n u) = (f.1.0 u there).1 (λ z. absurd (omega arith)) in
        let own : file_of n t ≡ file_of n u = (f.0 u (inr there)).0 (sym same) in
        not_both n t v (w t (inl refl)) (w v (inr (inl refl))) first (subst (λ (F : File). IsAhead (file_of n v) F) (sym own) second)

-- ---- the entries of tables one after another

pub after_has : (ts : List Table) (e : Entry) → Has (entries_after ts) e → (t : Table) × Has ts t × Has (entries_in t.image) e
after_has [] e h = absurd h
after_has (t ∷ ts) e h = elim (has_cases (entries_in t.image) (entries_after ts) e h) [
  | inl a ↦ (t, inl refl, a)
  | inr b ↦ (let r = after_has ts e b in (r.0, inr r.1, r.2))
]

pub has_after : (ts : List Table) (t : Table) (e : Entry) → Has ts t → Has (entries_in t.image) e → Has (entries_after ts) e
has_after [] t e h k = absurd h
has_after (u ∷ ts) t e (inl same) k = has_left (entries_in u.image) (entries_after ts) e (subst (λ (x : Table). Has (entries_in x.image) e) (sym same) k)
has_after (u ∷ ts) t e (inr h) k = has_right (entries_in u.image) (entries_after ts) e (has_after ts t e h k)

sorted_append : (xs ys : List Entry) → IsSorted xs → IsSorted ys → ((x y : Entry) → Has xs x → Has ys y → goes_first x y ≡ true) → IsSorted (xs ++ ys)
sorted_append [] ys a b across = b
sorted_append (x ∷ xs) ys a b across = (
  λ y h. elim (has_cases xs ys y h) [ inl l ↦ a.0 y l | inr r ↦ across x y (inl refl) r ],
  sorted_append xs ys a.1 b (λ z y hz hy. across z y (inr hz) hy),
)

table_sorted : (t : Table) → IsWhole t → IsSorted (entries_in t.image)
table_sorted t w = ascending_sorted (entries_in t.image) w.entries.ascending

pub once_sorted : (n : ℕ) (last : Option ℕ) (ts : List Table) → Follows n ts → ((x : Table) → Has ts x → IsWhole x) → IsSorted (entries_after (once last ts))
once_sorted n last [] f w = tt
once_sorted n last (t ∷ ts) f w = go (is_number last t.number) (once_sorted n last ts f.1 (λ x h. w x (inr h))) (once_sorted n (Some t.number) ts f.1 (λ x h. w x (inr h)))
  where
    across : (x y : Entry) → Has (entries_in t.image) x → Has (entries_after (once (Some t.number) ts)) y → goes_first x y ≡ true
    across x y hx hy =
        let r = after_has (once (Some t.number) ts) y hy in
        let ahead = (f.0 r.0 (once_part (Some t.number) ts r.0 r.1)).1 (λ same. no_again n t ts r.0 f w r.1 (sym same)) in
        before_first x y (ahead x y hx r.2)

    go : (b : Bool) → IsSorted (entries_after (once last ts)) → IsSorted (entries_after (once (Some t.number) ts)) → IsSorted (entries_after (cond b (once last ts) (t ∷ once (Some t.number) ts)))
    go true skip on = skip
    go false skip on = sorted_append (entries_in t.image) (entries_after (once (Some t.number) ts)) (table_sorted t (w t (inl refl))) on across

-- ---- tables at a place in a level

pub one_at : (ts : List Table) (i : ℕ) (t : Table) → i < length ts → t ≡ get_or ts i t → drop i (take (i + 1) ts) ≡ t ∷ []
one_at [] i t lt is = absurd (omega arith)
one_at (u ∷ ts) zero t lt is = ap (λ (x : Table). x ∷ []) (sym is)
one_at (u ∷ ts) (suc i) t lt is = let there : suc (i + 1) ≡ suc i + 1 = omega arith in ap (λ (n : ℕ). drop (suc i) (take n (u ∷ ts))) (sym there) ∙ one_at ts i t (omega arith) is

pub whole_at : (ts : List Table) → drop 0 (take (length ts) ts) ≡ ts
whole_at ts = take_all (length ts) ts (omega arith)

-- the file of a table that stands once
pub once_file : (n : ℕ) (ts : List Table) (F : File) → IsSoundLevel n ts → Has (files_of n ts) F → (v : Table) × Has (once None ts) v × (file_of n v ≡ F)
once_file n ts F s h =
    let r = files_has n ts F h in
    elim (once_all None ts r.0 r.1) [
      | inl none ↦ absurd (cc none)
      | inr (v, hv, same) ↦ (v, hv, s.lawful.numbers (file_of n v) (file_of n r.0) (has_files n ts v (once_part None ts v hv)) (has_files n ts r.0 r.1) same ∙ r.2)
    ]

-- ---- one run more

ordered_push : (ls : List (List Placed)) (l : List Placed) → AreOrdered ls → IsOrdered l → AreOrdered (ls ++ l ∷ [])
ordered_push [] l a o = (o, tt)
ordered_push (m ∷ ls) l a o = (a.0, ordered_push ls l a.1 o)

ordered_run : (ls : List (List Placed)) (depth : ℕ) (es : List Entry) → AreOrdered ls → IsSorted es → AreOrdered (ls ++ run_of depth es)
ordered_run ls depth [] a s = subst AreOrdered (sym (append-nil ls)) a
ordered_run ls depth (e ∷ es) a s = ordered_push ls (placed_at depth (e ∷ es)) a (sorted_ordered depth (e ∷ es) s)

placed_has : (depth : ℕ) (es : List Entry) (p : Placed) → Has (placed_at depth es) p → (p.0 ≡ depth) × Has es p.1
placed_has depth [] p h = absurd h
placed_has depth (e ∷ es) p (inl same) = (sym (ap (λ (q : Placed). q.0) same), inl (ap (λ (q : Placed). q.1) same))
placed_has depth (e ∷ es) p (inr h) = (let r = placed_has depth es p h in (r.0, inr r.1))

has_placed : (depth : ℕ) (es : List Entry) (e : Entry) → Has es e → Has (placed_at depth es) (depth, e)
has_placed depth [] e h = absurd h
has_placed depth (f ∷ es) e (inl same) = inl (ap (λ (g : Entry). (let p : Placed = (depth, g) in p)) same)
has_placed depth (f ∷ es) e (inr h) = inr (has_placed depth es e h)

run_has : (depth : ℕ) (es : List Entry) (l : List Placed) (p : Placed) → Has (run_of depth es) l → Has l p → (p.0 ≡ depth) × Has es p.1
run_has depth [] l p h k = absurd h
run_has depth (e ∷ es) l p (inl same) k = placed_has depth (e ∷ es) p (subst (λ (m : List Placed). Has m p) (sym same) k)
run_has depth (e ∷ es) l p (inr none) k = absurd none

has_run : (depth : ℕ) (es : List Entry) (e : Entry) → Has es e → (l : List Placed) × Has (run_of depth es) l × Has l (depth, e)
has_run depth [] e h = absurd h
has_run depth (f ∷ es) e h = (placed_at depth (f ∷ es), inl refl, has_placed depth (f ∷ es) e h)

pub runs_none : (user : UserKey) (shallow : List Table) (P : File → Type 0) → ((F : File) → P F → ⊥) → AreRunsFrom user shallow P []
runs_none user shallow P none = record { from = λ l p h. absurd h; all = λ F e p. absurd (none F p); ordered = tt }

pub runs_as : (user : UserKey) (shallow : List Table) (P R : File → Type 0) (ls : List (List Placed)) → ((F : File) → R F → P F) → ((F : File) → P F → R F)
    → AreRunsFrom user shallow P ls → AreRunsFrom user shallow R ls
runs_as user shallow P R ls back to a = record {
  from = λ l p h k. (let r = a.from l p h k in (r.0, to r.0 r.1, r.2, r.3, r.4));
  all = λ F e r k. a.all F e (back F r) k;
  ordered = a.ordered;
}

-- a run of these tables at one depth
pub runs_add : (user : UserKey) (n depth : ℕ) (shallow ts : List Table) (P R : File → Type 0) (old new : List (List Placed)) → AreRunsFrom user shallow P old → AddsRun user depth ts old new
    → ((t : Table) → Has ts t → depth_of shallow (file_of n t) ≡ depth) → ((F : File) → R F → P F ⊎ Has (files_of n ts) F) → ((F : File) → P F → R F) → ((F : File) → Has (files_of n ts) F → R F)
    → AreRunsFrom user shallow R new
runs_add user n depth shallow ts P R old new a add at_depth split left right = subst (AreRunsFrom user shallow R) (sym add.grown) (record {
  from = λ l p h k. elim (has_cases old (run_of depth add.entries) l h) [
    | inl b ↦ (let r = a.from l p b k in (r.0, left r.0 r.1, r.2, r.3, r.4))
    | inr b ↦ (let q = run_has depth add.entries l p b k in
        let t = add.from p.1 q.1 in
        (file_of n t.0, right (file_of n t.0) (has_files n ts t.0 t.1), t.2, t.3, q.0 ∙ sym (at_depth t.0 t.1)))
  ];
  all = λ F e r k u. elim (split F r) [
    | inl p ↦ (let b = a.all F e p k u in (b.0, has_left old (run_of depth add.entries) b.0 b.1, b.2))
    | inr q ↦ (let t = files_has n ts F q in
        let h = add.all t.0 e t.1 (subst (λ (G : File). Has G.entries e) (sym t.2) k) u in
        let r = has_run depth add.entries e h in
        let there : depth_of shallow F ≡ depth = ap (depth_of shallow) (sym t.2) ∙ at_depth t.0 t.1 in
        (r.0, has_right old (run_of depth add.entries) r.0 r.1, subst (λ (m : ℕ). Has r.0 (m, e)) (sym there) r.2))
  ];
  ordered = ordered_run old depth add.entries a.ordered add.sorted;
})

-- ---- a table of level 0

pub shallow_more : (user : UserKey) (shallow ts : List Table) (i : ℕ) (x : Table) (old new : List (List Placed)) → i < length ts → x ≡ get_or ts i x
    → AddsRun user (newer_count shallow x.number) (x ∷ []) old new → AreRunsFrom user shallow (Has (files_of 0 (take i ts))) old
    → AreRunsFrom user shallow (Has (files_of 0 (take (i + 1) ts))) new
shallow_more user shallow ts i x old new lt is add a =
    runs_add user 0 (newer_count shallow x.number) shallow (x ∷ []) (Has (files_of 0 (take i ts))) (Has (files_of 0 (take (i + 1) ts))) old new a add
    (λ t h. elim h [ inl same ↦ ap (λ (u : Table). newer_count shallow u.number) (sym same) | inr none ↦ absurd none ])
    (λ F h. elim (files_push 0 (take i ts) x F (subst (λ (us : List Table). Has (files_of 0 us) F) (took ts i x lt is) h)) [ inl b ↦ inl b | inr e ↦ inr (inl e) ])
    (λ F h. subst (λ (us : List Table). Has (files_of 0 us) F) (sym (took ts i x lt is)) (push_left 0 (take i ts) x F h))
    (λ F q. elim q [
      | inl e ↦ subst (λ (us : List Table). Has (files_of 0 us) F) (sym (took ts i x lt is)) (subst (Has (files_of 0 (take i ts ++ x ∷ []))) e (push_last 0 (take i ts) x))
      | inr none ↦ absurd none
    ])

-- ---- a deeper level

above_more : (k : ℕ) (levels : List (List Table)) (ts : List Table) (F : File) → level_in levels k ≡ ts → IsAbove (k + 1) levels F → IsAbove k levels F ⊎ Has (files_of k ts) F
above_more k levels ts F is (n, lt, h) = elim (cases_eq n k) [
  | inl e ↦ inr (subst (λ (us : List Table). Has (files_of k us) F) is (subst (λ (j : ℕ). Has (files_of j (level_in levels j)) F) e h))
  | inr ne ↦ inl (n, omega arith, h)
]

above_left : (k : ℕ) (levels : List (List Table)) (F : File) → IsAbove k levels F → IsAbove (k + 1) levels F
above_left k levels F (n, lt, h) = (n, omega arith, h)

above_right : (k : ℕ) (levels : List (List Table)) (ts : List Table) (F : File) → level_in levels k ≡ ts → Has (files_of k ts) F → IsAbove (k + 1) levels F
above_right k levels ts F is h = (k, omega arith, subst (λ (us : List Table). Has (files_of k us) F) (sym is) h)

pub deeper_more : (user : UserKey) (shallow : List Table) (k : ℕ) (levels : List (List Table)) (ts : List Table) (old new : List (List Placed)) → 1 ≤ k → level_in levels k ≡ ts
    → AddsRun user (length shallow + k) ts old new → AreRunsFrom user shallow (IsAbove k levels) old → AreRunsFrom user shallow (IsAbove (k + 1) levels) new
deeper_more user shallow k levels ts old new pos is add a =
    runs_add user k (length shallow + k) shallow ts (IsAbove k levels) (IsAbove (k + 1) levels) old new a add (λ t h. depth_more shallow k t.number pos)
    (λ F. above_more k levels ts F is) (λ F. above_left k levels F) (λ F. above_right k levels ts F is)

pub runs_shallow : (user : UserKey) (shallow : List Table) (levels : List (List Table)) (ls : List (List Placed)) → level_in levels 0 ≡ shallow → AreRunsFrom user shallow (Has (files_of 0 shallow)) ls
    → AreRunsFrom user shallow (IsAbove 1 levels) ls
runs_shallow user shallow levels ls is a = runs_as user shallow (Has (files_of 0 shallow)) (IsAbove 1 levels) ls
    (λ F h. elim (above_more 0 levels shallow F is h) [ inl b ↦ (let lt = b.1 in absurd (omega arith)) | inr b ↦ b ])
    (λ F h. (0, omega arith, subst (λ (us : List Table). Has (files_of 0 us) F) (sym is) h)) a

pub runs_whole : (user : UserKey) (shallow : List Table) (k : ℕ) (levels : List (List Table)) (ls : List (List Placed)) → length levels ≤ k → AreRunsFrom user shallow (IsAbove k levels) ls
    → AreRunsFrom user shallow (Has (files_from 0 levels)) ls
runs_whole user shallow k levels ls past a = runs_as user shallow (IsAbove k levels) (Has (files_from 0 levels)) ls
    (λ F h. (let r = file_in 0 levels F h in
    let lt = inside levels r.0 r.1 r.2 in
    let here : r.0 ≡ 0 + r.0 = omega arith in
    (r.0, omega arith, subst (Has (files_of r.0 (level_in levels r.0))) (ap (λ (m : ℕ). file_of m r.1) here ∙ r.3) (has_files r.0 (level_in levels r.0) r.1 r.2))))
    (λ F h. of_level levels h.0 F h.2) a

-- from the least user key on they are all there is
pub runs_from_least : (shallow : List Table) (P : File → Type 0) (ls : List (List Placed)) → AreRunsFrom [] shallow P ls → AreRunsOf shallow P ls
runs_from_least shallow P ls a = record {
  from = λ l p h k. (let r = a.from l p h k in (r.0, r.1, r.2, r.4));
  all = λ F e p h. a.all F e p h (least e.user);
  ordered = a.ordered;
}
