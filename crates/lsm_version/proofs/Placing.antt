-- Where a table is put among those of a level in order.
use Rattle.std.proofs.Common.{◌≡◌, ℕ, zero, suc, ◌+◌, ◌-◌, ◌<◌, ◌≤◌, Bool, true, false, not, cond, List, [], ◌∷◌, ◌++◌, length, get_or, take, drop, add-one, refl, sym, ◌∙◌, ap, inl, inr, arith}
use Rattle.std.specs.Cmp.{IsStrictWeakOrder}
use Rattle.std.specs.List.{filter, insert}
use Rattle.std.proofs.lemmas.List.{get_or_default}
use Rattle.std.specs.List.Sorted.{IsSortedBy}
use Rattle.std.proofs.lemmas.Cmp.{on_total, then_total, back_total, nat_cmp_total, nat_list_cmp_total}
use Rattle.std.proofs.lemmas.List.MinMax.{ranks_by}
use Rattle.std.proofs.lemmas.List.Sorted.{sorted_far}
use Rattle.lsm_codec.specs.Lists.{Has}
use Rattle.lsm_codec.proofs.CallerLemmas.{has_cases, filter_has, contains_from}
use Rattle.lsm_table.specs.Registry.{Table}
use Rattle.lsm_manifest.specs.FileOrder.{user_part, packed_part}
use Rattle.lsm_version.specs.Versions.{stands_before}
use Rattle.lsm_version.specs.Changes.{placed_in}

-- ---- the order of a level

pub tables_rank : IsStrictWeakOrder stands_before
unfolding stands_before
tables_rank = ranks_by (then_total (on_total (λ (t : Table). user_part t.smallest) nat_list_cmp_total)
    (then_total (back_total (on_total (λ (t : Table). packed_part t.smallest) nat_cmp_total)) (on_total (λ (t : Table). t.number) nat_cmp_total))) (λ (t : Table). t)

-- none stands before one that it comes after
abbrev pub EachAfter : List Table → Type 0
EachAfter [] = Unit {0}
EachAfter (x ∷ xs) = ((y : Table) → Has xs y → stands_before y x ≡ false) × EachAfter xs

pub each_after : (us : List Table) → IsSortedBy stands_before us → EachAfter us
each_after [] s = tt
each_after (x ∷ xs) s = (
  λ y h. (let c = contains_from xs y h in ap (λ z. stands_before z x) (sym c.2) ∙ sorted_far stands_before tables_rank (x ∷ xs) s 0 (suc c.0) y (omega arith) (let lt = c.1 in omega arith)),
  each_after xs (λ k d low lt. rw add-one (let h = s (suc k) d (omega arith) (omega arith) in rw add-one at h)),
)

pub sorted_after : (us : List Table) → EachAfter us → IsSortedBy stands_before us
sorted_after us a = λ k d low lt. at us a k d lt
  where
    at : (us : List Table) → EachAfter us → (k : ℕ) (d : Table) → k + 1 < length us → stands_before (get_or us (k + 1) d) (get_or us k d) ≡ false
    at [] a k d lt = absurd (omega arith)
    at (x ∷ []) a k d lt = absurd (omega arith)
    at (x ∷ y ∷ us) a zero d lt = a.0 y (inl refl)
    at (x ∷ y ∷ us) a (suc k) d lt = rw add-one (let h = at (y ∷ us) a.1 k d (omega arith) in rw add-one at h)

-- ---- where a table is put

-- where the test fails of the first n and holds of the others, the two parts are what it leaves and what it takes
pub parted : (p : Table → Bool) (us : List Table) (n : ℕ) → n ≤ length us → ((k : ℕ) (d : Table) → k < n → p (get_or us k d) ≡ false)
    → ((k : ℕ) (d : Table) → n ≤ k → k < length us → p (get_or us k d) ≡ true)
    → (take n us ≡ filter (λ u. not (p u)) us) × (drop n us ≡ filter p us)
parted p [] zero inside before behind = (refl, refl)
parted p [] (suc n) inside before behind = absurd (omega arith)
parted p (u ∷ us) zero inside before behind =
    let here : p u ≡ true = behind 0 u (omega arith) (omega arith) in
    let rest = parted p us zero (omega arith) (λ k d lt. absurd (omega arith)) (λ k d low lt. behind (suc k) d (omega arith) (omega arith)) in
    rw here (rest.0, ap (λ us. u ∷ us) rest.1)
parted p (u ∷ us) (suc n) inside before behind =
    let here : p u ≡ false = before 0 u (omega arith) in
    let rest = parted p us n (omega arith) (λ k d lt. before (suc k) d (omega arith)) (λ k d low lt. behind (suc k) d (omega arith) (omega arith)) in
    rw here (ap (λ us. u ∷ us) rest.0, rest.1)

-- the index of t in a level in order, where t stands before all tables from n on, and not before the one that comes just before them
pub record IsIndex (t : Table) (us : List Table) (n : ℕ) : Type 0 where
  pub before : take n us ≡ filter (λ u. not (stands_before t u)) us
  pub behind : drop n us ≡ filter (λ u. stands_before t u) us

abbrev pub StandBehind : Table → List Table → ℕ → Type 0
StandBehind t us n = (k : ℕ) (d : Table) → n ≤ k → k < length us → stands_before t (get_or us k d) ≡ true

pub index_at_front : (t : Table) (us : List Table) (n : ℕ) → n ≤ 0 → StandBehind t us n → IsIndex t us n
index_at_front t us n none behind =
    let parts = parted (λ u. stands_before t u) us n (omega arith) (λ k d lt. absurd (omega arith)) behind in
    record { before = parts.0; behind = parts.1 }

pub index_after : (t : Table) (us : List Table) (n : ℕ) (x : Table) → IsSortedBy stands_before us → 0 < n → n ≤ length us → x ≡ get_or us (n - 1) x → stands_before t x ≡ false
    → StandBehind t us n → IsIndex t us n
index_after t us n x s some inside is early behind =
    let earlier : (k : ℕ) (d : Table) → k < n → stands_before t (get_or us k d) ≡ false = λ k d lt. before_all k d lt in
    let parts = parted (λ u. stands_before t u) us n inside earlier behind in
    record { before = parts.0; behind = parts.1 }
  where
    here : (d : Table) → stands_before t (get_or us (n - 1) d) ≡ false
    here d = ap (λ z. stands_before t z) (get_or_default us (n - 1) d x (omega arith) ∙ sym is) ∙ early

    before_all : (k : ℕ) (d : Table) → k < n → stands_before t (get_or us k d) ≡ false
    before_all k d lt = tables_rank.chain t (get_or us (n - 1) d) (get_or us k d) (here d) (sorted_far stands_before tables_rank us s k (n - 1) d (omega arith) (omega arith))

pub placed_at : (t : Table) (us : List Table) (n : ℕ) → take n us ≡ filter (λ u. not (stands_before t u)) us → drop n us ≡ filter (λ u. stands_before t u) us
    → insert us n t ≡ placed_in t us
unfolding placed_in
placed_at t us n before behind = ap (λ fs. fs ++ t ∷ drop n us) before ∙ ap (λ bs. filter (λ u. not (stands_before t u)) us ++ t ∷ bs) behind

pub each_filter : (p : Table → Bool) (us : List Table) → EachAfter us → EachAfter (filter p us)
each_filter p [] a = tt
each_filter p (u ∷ us) a = go (p u) (each_filter p us a.1)
  where
    go : (b : Bool) → EachAfter (filter p us) → EachAfter (cond b (u ∷ filter p us) (filter p us))
    go true rest = (λ y h. a.0 y (filter_has p us y h).0, rest)
    go false rest = rest

each_append : (fs bs : List Table) → EachAfter fs → EachAfter bs → ((f b : Table) → Has fs f → Has bs b → stands_before b f ≡ false) → EachAfter (fs ++ bs)
each_append [] bs a b across = b
each_append (f ∷ fs) bs a b across = (
  λ y h. elim (has_cases fs bs y h) [ inl l ↦ a.0 y l | inr r ↦ across f y (inl refl) r ],
  each_append fs bs a.1 b (λ g y h k. across g y (inr h) k),
)

not_true : (b : Bool) → not b ≡ true → b ≡ false
not_true true h = absurd (cc h)
not_true false h = refl

each_placed : (t : Table) (us : List Table) → EachAfter us → EachAfter (placed_in t us)
unfolding placed_in
each_placed t us a =
    let p : Table → Bool = λ u. stands_before t u in
    let q : Table → Bool = λ u. not (stands_before t u) in
    each_append (filter q us) (t ∷ filter p us) (each_filter q us a)
    (λ y h. tables_rank.one_way t y (filter_has p us y h).1, each_filter p us a)
    (λ f b hf hb. (let early = not_true (stands_before t f) (filter_has q us f hf).1 in elim hb [
      | inl same ↦ ap (λ z. stands_before z f) (sym same) ∙ early
      | inr rest ↦ tables_rank.chain b t f (tables_rank.one_way t b (filter_has p us b rest).1) early
    ]))

-- a level with one more table is in order
pub placed_sorted : (t : Table) (us : List Table) → IsSortedBy stands_before us → IsSortedBy stands_before (placed_in t us)
placed_sorted t us s = sorted_after (placed_in t us) (each_placed t us (each_after us s))
