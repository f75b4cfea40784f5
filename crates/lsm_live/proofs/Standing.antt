-- The inputs of a plan stand in order, and no internal key is there twice.
use Rattle.std.proofs.Common.{◌≡◌, ℕ, zero, suc, ◌≤◌, Bool, true, false, cond, List, [], ◌∷◌, ◌++◌, Ordering, Less, Equal, Greater, add-one, refl, sym, ◌∙◌, ap, subst, inl, inr, arith}
use Rattle.std.specs.Cmp.{IsStrictWeakOrder}
use Rattle.std.specs.List.{filter}
use Rattle.std.specs.List.Sorted.{IsSortedBy}
use Rattle.std.specs.Ordering.{nat_cmp, is_lt, is_le, ordering_reverse}
use Rattle.std.proofs.lemmas.Bool.{cases_lt, cases_order}
use Rattle.std.proofs.lemmas.Cmp.{on_total, then_total, back_total, nat_cmp_total, nat_list_cmp_total}
use Rattle.std.proofs.lemmas.List.MinMax.{ranks_by}
use Rattle.std.proofs.lemmas.List.Sorted.{sorted_far}
use Rattle.lsm_codec.specs.Lists.{Has}
use Rattle.lsm_codec.specs.Keys.{InternalKey, IsKey, key_cmp, then_by}
use Rattle.lsm_codec.specs.Entries.{Entry, internal_key}
use Rattle.lsm_codec.proofs.CallerLemmas.{contains_from, filter_has, has_cases, key_cmp-swapped, stamp_lt}
use Rattle.lsm_table.specs.Registry.{Table}
use Rattle.lsm_table.specs.HeldTable.{entries_in}
use Rattle.lsm_manifest.specs.FileOrder.{TableFile, packed_part, user_part}
use Rattle.lsm_manifest.proofs.CallerLemmas.{order_is}
use Rattle.lsm_model.specs.Files.{Before, File, InOrder, IsAhead, IsLawful, Shallower, all_entries}
use Rattle.lsm_model.specs.Ranges.{KeyLe, key_le}
use Rattle.lsm_model.specs.Streams.{IsAscending}
use Rattle.lsm_model.proofs.CallerLemmas.{all_has, ascending_sorted, before_not_first, before_says, first_is_le, in_order_distinct, linked_in}
use Rattle.lsm_version.specs.FileNumbers.{AreDistinct}
use Rattle.lsm_version.specs.Versions.{AreInOrder, IsSound, IsWhole, Levels, file_of, files, files_of, level_in, numbers_in, stands_before}
use Rattle.lsm_merge.specs.InputOrder.{AreTwins, HasTwins, StandInOrder}
use Rattle.lsm_merge.specs.Work.{Work, job_of}
use Rattle.lsm_picker.specs.TablePlans.{ArePicked, IsPlanFrom, TablePlan}
use Rattle.lsm_live.specs.Planned.{IsWorkOf}
use Rattle.lsm_live.proofs.Alone.{Differ, differ_left, differ_right, inputs_differ}

-- ---- the order of a level

tables_rank : IsStrictWeakOrder stands_before
unfolding stands_before
tables_rank = ranks_by (then_total (on_total (λ (t : Table). user_part t.smallest) nat_list_cmp_total)
    (then_total (back_total (on_total (λ (t : Table). packed_part t.smallest) nat_cmp_total)) (on_total (λ (t : Table). t.number) nat_cmp_total))) (λ (t : Table). t)

-- none stands before one that it comes after
EachAfter : List Table → Type 0
EachAfter [] = Unit {0}
EachAfter (x ∷ xs) = ((y : Table) → Has xs y → stands_before y x ≡ false) × EachAfter xs

each_after : (us : List Table) → IsSortedBy stands_before us → EachAfter us
unfolding EachAfter
each_after [] s = tt
each_after (x ∷ xs) s = (
  λ y h. (let c = contains_from xs y h in ap (λ z. stands_before z x) (sym c.2) ∙ sorted_far stands_before tables_rank (x ∷ xs) s 0 (suc c.0) y (omega arith) (let lt = c.1 in omega arith)),
  each_after xs (λ k d low lt. rw add-one (let h = s (suc k) d (omega arith) (omega arith) in rw add-one at h)),
)

each_filter : (p : Table → Bool) (us : List Table) → EachAfter us → EachAfter (filter p us)
unfolding EachAfter
each_filter p [] a = tt
each_filter p (u ∷ us) a = go (p u) (each_filter p us a.1)
  where
    go : (b : Bool) → EachAfter (filter p us) → EachAfter (cond b (u ∷ filter p us) (filter p us))
    go true rest = (λ y h. a.0 y (filter_has p us y h).0, rest)
    go false rest = rest

each_picked : (us ts : List Table) → ArePicked us ts → EachAfter ts → EachAfter us
each_picked us ts p a = subst EachAfter (sym p.1) (each_filter p.0 ts a)

level_after : (levels : List (List Table)) (n : ℕ) → AreInOrder levels → EachAfter (level_in levels n)
unfolding EachAfter
level_after [] n o = tt
level_after (ts ∷ levels) zero o = each_after ts o.0
level_after (ts ∷ levels) (suc n) o = level_after levels n o.1

-- ---- tables that lie in order stand in it

not_less : (o p : Ordering) → is_lt (then_by o p) ≡ false → is_le (ordering_reverse o) ≡ true
not_less Less p h = absurd (cc h)
not_less Equal p h = refl
not_less Greater p h = refl

listed : Table → TableFile
listed t = record { number = t.number; size = 0; smallest = t.smallest; largest = t.largest }

-- a table that does not stand before another one begins no earlier
begins_later : (t u : Table) (k l : InternalKey) → IsKey t.smallest k → IsKey u.smallest l → stands_before u t ≡ false → KeyLe k l
unfolding stands_before key_le listed
begins_later t u k l kt ku late =
    ap is_le (key_cmp-swapped k l) ∙ not_less (key_cmp l k) (nat_cmp u.number t.number) (ap is_lt (sym (order_is (listed u) (listed t) l k ku kt)) ∙ late)

not_behind : (n : ℕ) (t u : Table) → IsWhole t → IsWhole u → stands_before u t ≡ false → IsAhead (file_of n u) (file_of n t) → ⊥
not_behind n t u wt wu late ahead =
    let f = wt.entries.first in
    let g = wu.entries.first in
    let le : KeyLe (internal_key f.0) (internal_key g.0) =
    subst (λ (k : InternalKey). KeyLe k (internal_key g.0)) (sym f.3) (subst (λ (k : InternalKey). KeyLe wt.range.smallest k) (sym g.3) (begins_later t u wt.range.smallest wu.range.smallest wt.smallest wu.smallest late)) in
    let bef = ahead g.0 f.0 (subst (λ (es : List Entry). Has es g.0) (sym g.2) (inl refl)) (subst (λ (es : List Entry). Has es f.0) (sym f.2) (inl refl)) in
    absurd (cc (first_is_le f.0 g.0 ∙ le, before_not_first g.0 f.0 bef))

-- these tables are whole, and lie in order
record AreLined (n : ℕ) (us : List Table) : Type 0 where
  whole : (t : Table) → Has us t → IsWhole t
  lie : (t u : Table) → Has us t → Has us u → (t.number ≡ u.number → ⊥) → InOrder (file_of n t) (file_of n u)

has_file : (n : ℕ) (us : List Table) (t : Table) → Has us t → Has (files_of n us) (file_of n t)
has_file n [] t h = absurd h
has_file n (u ∷ us) t (inl same) = inl (ap (file_of n) same)
has_file n (u ∷ us) t (inr h) = inr (has_file n us t h)

file_has : (n : ℕ) (us : List Table) (F : File) → Has (files_of n us) F → (t : Table) × Has us t × (file_of n t ≡ F)
file_has n [] F h = absurd h
file_has n (u ∷ us) F (inl same) = (u, inl refl, same)
file_has n (u ∷ us) F (inr h) = (let r = file_has n us F h in (r.0, inr r.1, r.2))

ascending_append : (xs ys : List Entry) → IsAscending xs → IsAscending ys → ((x y : Entry) → Has xs x → Has ys y → Before x y) → IsAscending (xs ++ ys)
ascending_append [] ys a b across = b
ascending_append (x ∷ xs) ys a b across = (
  λ y h. elim (has_cases xs ys y h) [ inl l ↦ a.0 y l | inr r ↦ across x y (inl refl) r ],
  ascending_append xs ys a.1 b (λ z y hz hy. across z y (inr hz) hy),
)

level_ascends : (n : ℕ) (us : List Table) → AreLined n us → EachAfter us → Differ (files_of n us) → IsAscending (all_entries (files_of n us))
unfolding EachAfter
level_ascends n [] l a d = tt
level_ascends n (t ∷ us) l a d =
    ascending_append (entries_in t.image) (all_entries (files_of n us)) (l.whole t (inl refl)).entries.ascending
    (level_ascends n us (record { whole = λ u h. l.whole u (inr h); lie = λ u w hu hw. l.lie u w (inr hu) (inr hw) }) a.1 d.1)
    (λ x y hx hy. (let F = all_has (files_of n us) y hy in let u = file_has n us F.0 F.1 in
    ahead u.0 u.1 x y hx (subst (λ (G : File). Has G.entries y) (sym u.2) F.2)))
  where
    ahead : (u : Table) → Has us u → IsAhead (file_of n t) (file_of n u)
    ahead u h = elim (l.lie t u (inl refl) (inr h) (λ same. d.0 (file_of n u) (has_file n us u h) same)) [
      | inl it ↦ it
      | inr back ↦ absurd (not_behind n t u (l.whole t (inl refl)) (l.whole u (inr h)) (a.0 u h) back)
    ]

-- ---- no internal key twice

ascending_single : (es : List Entry) → IsAscending es → HasTwins es → ⊥
ascending_single [] a h = h
ascending_single (x ∷ xs) a (inl r) = elim (before_says x r.0 (a.0 r.0 r.1)) [
  | inl k ↦ k.1 (r.2).0
  | inr s ↦ (let lt = s.1 in let same = (r.2).1 in absurd (omega arith))
]
ascending_single (x ∷ xs) a (inr h) = ascending_single xs a.1 h

twins_append : (xs ys : List Entry) → (HasTwins xs → ⊥) → (HasTwins ys → ⊥) → ((x y : Entry) → Has xs x → Has ys y → AreTwins x y → ⊥) → HasTwins (xs ++ ys) → ⊥
twins_append [] ys a b across h = b h
twins_append (x ∷ xs) ys a b across (inl r) = elim (has_cases xs ys r.0 r.1) [
  | inl l ↦ a (inl (r.0, l, r.2))
  | inr k ↦ across x r.0 (inl refl) k r.2
]
twins_append (x ∷ xs) ys a b across (inr h) = twins_append xs ys (λ k. a (inr k)) b (λ z y hz hy. across z y (inr hz) hy) h

-- entries of two files of a lawful version are no twins
files_single : (v : List File) → IsLawful v → (F G : File) → Has v F → Has v G → (F.number ≡ G.number → ⊥) → (x y : Entry) → Has F.entries x → Has G.entries y → AreTwins x y → ⊥
files_single v l F G hF hG ne x y kx ky twins = elim (cases_order F.level G.level) [
  | inl e ↦ elim (cases_lt 0 F.level) [
    | inl pos ↦ in_order_distinct F G x y (l.fits F hF) (l.fits G hG) (l.in_order F G hF hG e pos ne) kx ky twins.0 twins.1
    | inr none ↦ elim (cases_order F.number G.number) [
      | inl n ↦ ne n
      | inr o ↦ elim o [
        | inl lt ↦ upper (inr (omega arith, omega arith, lt))
        | inr gt ↦ lower (inr (omega arith, omega arith, gt))
      ]
    ]
  ]
  | inr o ↦ elim o [
    | inl lt ↦ lower (inl lt)
    | inr gt ↦ upper (inl gt)
  ]
]
  where
    lower : Shallower F G → ⊥
    lower s = (let lt = stamp_lt y x (l.depth F G x y hF hG s kx ky twins.0) in let same = twins.1 in absurd (omega arith))

    upper : Shallower G F → ⊥
    upper s = (let lt = stamp_lt x y (l.depth G F y x hG hF s ky kx (sym twins.0)) in let same = twins.1 in absurd (omega arith))

all_single : (v Fs : List File) → IsLawful v → ((F : File) → Has Fs F → Has v F × IsAscending F.entries) → Differ Fs → HasTwins (all_entries Fs) → ⊥
all_single v [] l each d h = h
all_single v (F ∷ Fs) l each d h =
    twins_append F.entries (all_entries Fs) (ascending_single F.entries (each F (inl refl)).1) (all_single v Fs l (λ G k. each G (inr k)) d.1)
    (λ x y hx hy twins. (let G = all_has Fs y hy in files_single v l F G.0 (each F (inl refl)).0 (each G.0 (inr G.1)).0 (d.0 G.0 G.1) x y hx G.2 twins)) h

-- ---- the job of a plan

picked_has : (us ts : List Table) (t : Table) → ArePicked us ts → Has us t → Has ts t
picked_has us ts t p h = (filter_has p.0 ts t (subst (λ (l : List Table). Has l t) p.1 h)).0

-- each of some tables of a level is whole, and a file of the version
record AreOfLevel (v : Levels) (n : ℕ) (us : List Table) : Type 0 where
  whole : (t : Table) → Has us t → IsWhole t
  files : (F : File) → Has (files_of n us) F → Has (files v) F

lined : (v : Levels) (n : ℕ) (us : List Table) → IsSound v → 1 ≤ n → AreOfLevel v n us → AreLined n us
lined v n us s pos l = record {
  whole = l.whole;
  lie = λ t u ht hu ne. s.lawful.in_order (file_of n t) (file_of n u) (l.files (file_of n t) (has_file n us t ht)) (l.files (file_of n u) (has_file n us u hu)) refl pos ne;
}

ascends_there : (v : Levels) (n : ℕ) (us : List Table) → AreOfLevel v n us → (F : File) → Has (files_of n us) F → Has (files v) F × IsAscending F.entries
ascends_there v n us l F h = (let t = file_has n us F h in (l.files F h, subst (λ (G : File). IsAscending G.entries) t.2 (l.whole t.0 t.1).entries.ascending))

upper_of : (v : Levels) (starts : List File) (p : TablePlan) → IsSound v → IsPlanFrom v (Has starts) p → AreOfLevel v p.level p.upper
upper_of v starts p s q = record {
  whole = λ t h. s.tables p.level t (picked_has p.upper (level_in v.tables p.level) t q.upper_order h);
  files = λ F h. (linked_in (files v) p.level (Has starts) F (q.closed.upper_from F h)).0;
}

lower_of : (v : Levels) (starts : List File) (p : TablePlan) → IsSound v → IsPlanFrom v (Has starts) p → AreOfLevel v (suc p.level) p.lower
lower_of v starts p s q = record {
  whole = λ t h. s.tables (suc p.level) t (picked_has p.lower (level_in v.tables (suc p.level)) t q.lower_order h);
  files = λ F h. (linked_in (files v) (suc p.level) _ F (q.closed.lower_from F h)).0;
}

plan_differs : (v : Levels) (starts : List File) (p : TablePlan) → AreDistinct (numbers_in v) → IsPlanFrom v (Has starts) p → Differ (files_of p.level p.upper ++ files_of (suc p.level) p.lower)
plan_differs v starts p d q = inputs_differ v p.level p.upper p.lower d q.upper_order q.lower_order

-- the job with the plan's tables
of_plan : TablePlan → Work → Work
of_plan p w = record w { level = p.level; upper = p.upper; lower = p.lower }

plan_stands : (v : Levels) (starts : List File) (p : TablePlan) (w : Work) → IsSound v → AreInOrder v.tables → AreDistinct (numbers_in v) → IsPlanFrom v (Has starts) p → StandInOrder (of_plan p w)
unfolding of_plan
plan_stands v starts p w s o d q = record {
  upper = λ pos. ascending_sorted (all_entries (files_of p.level p.upper))
      (level_ascends p.level p.upper (lined v p.level p.upper s pos (upper_of v starts p s q)) (each_picked p.upper (level_in v.tables p.level) q.upper_order (level_after v.tables p.level o))
      (differ_left (files_of p.level p.upper) (files_of (suc p.level) p.lower) (plan_differs v starts p d q)));
  lower = ascending_sorted (all_entries (files_of (suc p.level) p.lower))
      (level_ascends (suc p.level) p.lower (lined v (suc p.level) p.lower s (omega arith) (lower_of v starts p s q)) (each_picked p.lower (level_in v.tables (suc p.level)) q.lower_order (level_after v.tables (suc p.level) o))
      (differ_right (files_of p.level p.upper) (files_of (suc p.level) p.lower) (plan_differs v starts p d q)));
}

plan_single : (v : Levels) (starts : List File) (p : TablePlan) (w : Work) → IsSound v → AreDistinct (numbers_in v) → IsPlanFrom v (Has starts) p → HasTwins (all_entries (job_of (of_plan p w)).inputs) → ⊥
unfolding of_plan
plan_single v starts p w s d q =
    all_single (files v) (files_of p.level p.upper ++ files_of (suc p.level) p.lower) s.lawful
    (λ F h. elim (has_cases (files_of p.level p.upper) (files_of (suc p.level) p.lower) F h) [
      | inl up ↦ ascends_there v p.level p.upper (upper_of v starts p s q) F up
      | inr down ↦ ascends_there v (suc p.level) p.lower (lower_of v starts p s q) F down
    ])
    (plan_differs v starts p d q)

work_is : (p : TablePlan) (w : Work) → IsWorkOf p w → of_plan p w ≡ w
unfolding of_plan
work_is p w i =
    ap (λ (n : ℕ). record w { level = n; upper = p.upper; lower = p.lower }) (sym i.level)
    ∙ ap (λ (ts : List Table). record w { level = w.level; upper = ts; lower = p.lower }) (sym i.upper)
    ∙ ap (λ (ts : List Table). record w { level = w.level; upper = w.upper; lower = ts }) (sym i.lower)

pub stands_in_order : (v : Levels) (starts : List File) (p : TablePlan) (w : Work) → IsSound v → AreInOrder v.tables → AreDistinct (numbers_in v) → IsPlanFrom v (Has starts) p → IsWorkOf p w → StandInOrder w
stands_in_order v starts p w s o d q i = subst StandInOrder (work_is p w i) (plan_stands v starts p w s o d q)

pub has_no_twins : (v : Levels) (starts : List File) (p : TablePlan) (w : Work) → IsSound v → AreDistinct (numbers_in v) → IsPlanFrom v (Has starts) p → IsWorkOf p w
    → HasTwins (all_entries (job_of w).inputs) → ⊥
has_no_twins v starts p w s d q i =
    subst (λ (x : Work). HasTwins (all_entries (job_of x).inputs) → ⊥) (work_is p w i) (plan_single v starts p w s d q)
