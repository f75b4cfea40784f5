-- The tables of a level from 1 on rise: what stands later in the level stands later in internal keys.
use Rattle.std.proofs.Common.{◌≡◌, ℕ, zero, suc, ◌+◌, ◌<◌, ◌≤◌, true, false, List, [], ◌∷◌, length, get_or, refl, sym, ◌∙◌, ap, subst, inl, inr, arith, Ordering, Less, Equal, Greater}
use Rattle.std.specs.Prelude.{◌⊎◌}
use Rattle.std.proofs.lemmas.Bool.{cases_eq}
use Rattle.std.proofs.lemmas.List.{get_or_default}
use Rattle.std.proofs.lemmas.List.Sorted.{sorted_far}
use Rattle.lsm_codec.specs.Entries.{Entry, internal_key}
use Rattle.lsm_codec.specs.Lists.{Has}
use Rattle.lsm_codec.specs.Keys.{UserKey, UserLe, InternalKey, IsKey, key_cmp, then_by}
use Rattle.lsm_codec.proofs.CallerLemmas.{user_le_trans, user_le_refl, take-key_bytes, key_cmp-swapped}
use Rattle.lsm_table.specs.Registry.{Table}
use Rattle.lsm_model.specs.Files.{File, Fits, IsAhead}
use Rattle.lsm_model.specs.Ranges.{KeyLe, key_le}
use Rattle.lsm_model.proofs.CallerLemmas.{before_not_first, before_says, first_is_le, key_le_user, true_or_not}
use Rattle.lsm_version.specs.Versions.{IsWhole, file_of, files_of, stands_before, user_of}
use Rattle.lsm_version.specs.Reads.{IsSoundLevel, IsRising, reaches}
use Rattle.lsm_version.proofs.Placing.{tables_rank}
use Rattle.lsm_version.proofs.ChangedFiles.{has_files}
use Rattle.std.specs.Ordering.{nat_cmp, is_lt, is_le, ordering_reverse}
use Rattle.lsm_manifest.specs.FileOrder.{TableFile}
use Rattle.lsm_manifest.proofs.CallerLemmas.{order_is}

not_less : (o p : Ordering) → is_lt (then_by o p) ≡ false → is_le (ordering_reverse o) ≡ true
not_less Less p h = absurd (cc h)
not_less Equal p h = refl
not_less Greater p h = refl

row_of : Table → TableFile
row_of t = record { number = t.number; size = 0; smallest = t.smallest; largest = t.largest }

-- a table that does not stand before another one begins no earlier
pub begins_later : (t u : Table) (k l : InternalKey) → IsKey t.smallest k → IsKey u.smallest l → stands_before u t ≡ false → KeyLe k l
unfolding stands_before key_le row_of
begins_later t u k l kt ku late =
    ap is_le (key_cmp-swapped k l) ∙ not_less (key_cmp l k) (nat_cmp u.number t.number) (ap is_lt (sym (order_is (row_of u) (row_of t) l k ku kt)) ∙ late)

pub user_of-key : (bytes : List ℕ) (key : InternalKey) → IsKey bytes key → user_of bytes ≡ key.user
user_of-key bytes key is = ap user_of is.bytes_are ∙ take-key_bytes key

pub has_at : (ts : List Table) (i : ℕ) (d : Table) → i < length ts → Has ts (get_or ts i d)
has_at [] i d lt = absurd (omega arith)
has_at (t ∷ ts) zero d lt = inl refl
has_at (t ∷ ts) (suc i) d lt = inr (has_at ts i d (omega arith))

-- ---- the order of a level

-- a table that does not stand before another one begins no earlier
pub begins_no_earlier : (t u : Table) → IsWhole t → IsWhole u → stands_before u t ≡ false → UserLe (user_of t.smallest) (user_of u.smallest)
begins_no_earlier t u wt wu late =
    let k = wt.range.smallest in
    let l = wu.range.smallest in
    subst (λ (a : UserKey). UserLe a (user_of u.smallest)) (sym (user_of-key t.smallest k wt.smallest))
    (subst (λ (b : UserKey). UserLe k.user b) (sym (user_of-key u.smallest l wu.smallest)) (key_le_user k l (begins_later t u k l wt.smallest wu.smallest late)))

-- no table stands ahead of one that it does not stand before in the level
not_behind : (m n : ℕ) (t u : Table) → IsWhole t → IsWhole u → stands_before u t ≡ false → IsAhead (file_of m u) (file_of n t) → ⊥
not_behind m n t u wt wu late ahead =
    let f = wt.entries.first in
    let g = wu.entries.first in
    let le : KeyLe (internal_key f.0) (internal_key g.0) =
    subst (λ (k : InternalKey). KeyLe k (internal_key g.0)) (sym f.3) (subst (λ (k : InternalKey). KeyLe wt.range.smallest k) (sym g.3) (begins_later t u wt.range.smallest wu.range.smallest wt.smallest wu.smallest late)) in
    let bef = ahead g.0 f.0 (subst (λ (es : List Entry). Has es g.0) (sym g.2) (inl refl)) (subst (λ (es : List Entry). Has es f.0) (sym f.2) (inl refl)) in
    absurd (cc (first_is_le f.0 g.0 ∙ le, before_not_first g.0 f.0 bef))

-- of two tables of a level from 1 on the earlier one stands ahead in internal keys, or both are one file
pub ahead_or_same : (n : ℕ) (ts : List Table) → 1 ≤ n → IsSoundLevel n ts → (i j : ℕ) (d : Table) → i ≤ j → j < length ts
    → (file_of n (get_or ts i d) ≡ file_of n (get_or ts j d)) ⊎ IsAhead (file_of n (get_or ts i d)) (file_of n (get_or ts j d))
ahead_or_same n ts pos s i j d le lt = elim (cases_eq (get_or ts i d).number (get_or ts j d).number) [
  | inl same ↦ inl (s.lawful.numbers (file_of n (get_or ts i d)) (file_of n (get_or ts j d)) hi hj same)
  | inr other ↦ elim (s.lawful.in_order (file_of n (get_or ts i d)) (file_of n (get_or ts j d)) hi hj refl pos other) [
    | inl ahead ↦ inr ahead
    | inr back ↦ absurd (not_behind n n (get_or ts i d) (get_or ts j d) (s.whole (get_or ts i d) (has_at ts i d (omega arith))) (s.whole (get_or ts j d) (has_at ts j d lt))
        (sorted_far stands_before tables_rank ts s.order i j d le lt) back)
  ]
]
  where
    hi : Has (files_of n ts) (file_of n (get_or ts i d))
    hi = has_files n ts (get_or ts i d) (has_at ts i d (omega arith))

    hj : Has (files_of n ts) (file_of n (get_or ts j d))
    hj = has_files n ts (get_or ts j d) (has_at ts j d lt)

-- a file ahead of another one ends no later
ends_no_later : (F G : File) → Fits F → Fits G → IsAhead F G → UserLe F.high G.high
ends_no_later F G f g ahead =
    subst (λ (k : UserKey). UserLe k G.high) f.last.2 (subst (λ (k : UserKey). UserLe f.last.0.user k) g.last.2
    (elim (before_says f.last.0 g.last.0 (ahead f.last.0 g.last.0 f.last.1 g.last.1)) [
      | inl k ↦ k.0
      | inr s ↦ subst (UserLe f.last.0.user) s.0 (user_le_refl f.last.0.user)
    ]))

pub level_rises : (n : ℕ) (ts : List Table) → 1 ≤ n → IsSoundLevel n ts → IsRising ts
level_rises n ts pos s = record {
  lows = λ i j d le lt. begins_no_earlier (get_or ts i d) (get_or ts j d) (s.whole (get_or ts i d) (has_at ts i d (omega arith))) (s.whole (get_or ts j d) (has_at ts j d lt))
      (sorted_far stands_before tables_rank ts s.order i j d le lt);
  highs = λ i j d le lt. elim (ahead_or_same n ts pos s i j d le lt) [
    | inl same ↦ subst (λ (H : File). UserLe (file_of n (get_or ts i d)).high H.high) same (user_le_refl (file_of n (get_or ts i d)).high)
    | inr ahead ↦ ends_no_later (file_of n (get_or ts i d)) (file_of n (get_or ts j d)) (s.lawful.fits (file_of n (get_or ts i d)) (has_files n ts (get_or ts i d) (has_at ts i d (omega arith))))
        (s.lawful.fits (file_of n (get_or ts j d)) (has_files n ts (get_or ts j d) (has_at ts j d lt))) ahead
  ];
}

-- ---- the search for the first table that reaches a key

pub after_more : (ts : List Table) (m : ℕ) (x : Table) (k : UserKey) → IsRising ts → m < length ts → x ≡ get_or ts m x → reaches x k ≡ true
    → (i : ℕ) (d : Table) → m ≤ i → i < length ts → reaches (get_or ts i d) k ≡ true
after_more ts m x k r inside is here i d low lt =
    let same : get_or ts m d ≡ x = get_or_default ts m d x inside ∙ sym is in
    user_le_trans k (user_of x.largest) (user_of (get_or ts i d).largest) here (subst (λ (y : Table). UserLe (user_of y.largest) (user_of (get_or ts i d).largest)) same (r.highs m i d low lt))

pub before_more : (ts : List Table) (m : ℕ) (x : Table) (k : UserKey) → IsRising ts → m < length ts → x ≡ get_or ts m x → reaches x k ≡ false
    → (i : ℕ) (d : Table) → i < m + 1 → reaches (get_or ts i d) k ≡ false
before_more ts m x k r inside is here i d lt =
    let same : get_or ts m d ≡ x = get_or_default ts m d x inside ∙ sym is in
    true_or_not (reaches (get_or ts i d) k) (λ h. (let there = user_le_trans k (user_of (get_or ts i d).largest) (user_of x.largest) h
    (subst (λ (y : Table). UserLe (user_of (get_or ts i d).largest) (user_of y.largest)) same (r.highs i m d (omega arith) inside)) in absurd (cc (here, there))))
