-- Rows of ranges that rise: how long one is, and the search for a user key in it.
use Rattle.std.proofs.Common.{◌≡◌, ℕ, suc, ◌+◌, ◌-◌, ◌<◌, ◌≤◌, Bool, true, false, ◌&&◌, not, List, [], ◌∷◌, ◌++◌, length, get_or, take, refl, sym, ◌∙◌, ap, subst, inl, inr, arith, append_assoc, append-nil, get_or-take, length-take-le, Bor}
use Rattle.std.specs.Prelude.{◌||◌}
use Rattle.std.specs.List.{flat_map, list_any}
use Rattle.std.specs.List.Sorted.{IsPartitionPoint, IsPartitionedBy}
use Rattle.std.specs.Cmp.Derive.{both_true}
use Rattle.std.proofs.lemmas.Bool.{cases_lt}
use Rattle.std.proofs.lemmas.List.{get_or_default}
use Rattle.std.proofs.lemmas.List.Folds.{list_any-append, list_any_at}
use Rattle.std.proofs.lemmas.Grind.{flat_map-append}
use Rattle.lsm_codec.specs.Keys.{UserKey, UserLe, user_le}
use Rattle.lsm_codec.proofs.CallerLemmas.{user_le_refl, user_le_trans}
use Rattle.lsm_model.specs.Kept.{covers}
use Rattle.lsm_model.proofs.CallerLemmas.{true_or_not}
use Rattle.lsm_merge.specs.Rows.{IsRising, rises}

both_says : (a b : Bool) → (a && b) ≡ true → (a ≡ true) × (b ≡ true)
both_says true b h = (refl, h)
both_says false b h = absurd (cc h)

rises_refl : (r : UserKey × UserKey) → rises r r ≡ true
rises_refl r = both_true (user_le_refl r.0) (user_le_refl r.1)

rises_says : (r s : UserKey × UserKey) → rises r s ≡ true → UserLe r.0 s.0 × UserLe r.1 s.1
rises_says r s h = both_says (user_le r.0 s.0) (user_le r.1 s.1) h

rises_trans : (r s t : UserKey × UserKey) → rises r s ≡ true → rises s t ≡ true → rises r t ≡ true
rises_trans r s t h k =
    both_true (user_le_trans r.0 s.0 t.0 (rises_says r s h).0 (rises_says s t k).0) (user_le_trans r.1 s.1 t.1 (rises_says r s h).1 (rises_says s t k).1)

-- ---- how long a row is

-- the first n ranges rise
pub record RisesTo (rs : List (UserKey × UserKey)) (n : ℕ) : Type 0 where
  pub later : (i j : ℕ) (d : UserKey × UserKey) → i ≤ j → j < n → rises (get_or rs i d) (get_or rs j d) ≡ true

pub one_rises : (rs : List (UserKey × UserKey)) → RisesTo rs 1
one_rises rs = record { later = λ i j d le lt. (let e : i ≡ j = omega arith in subst (λ (k : ℕ). rises (get_or rs i d) (get_or rs k d) ≡ true) e (rises_refl (get_or rs i d))) }

pub one_more_rises : (rs : List (UserKey × UserKey)) (n : ℕ) (x y : UserKey × UserKey) → 0 < n → n < length rs → x ≡ get_or rs (n - 1) x → y ≡ get_or rs n y → rises x y ≡ true
    → RisesTo rs n → RisesTo rs (n + 1)
one_more_rises rs n x y some lt isx isy xy h = record {
  later = λ i j d le jn. elim (cases_lt j n) [
    | inl early ↦ h.later i j d le early
    | inr at ↦ (let e : n ≡ j = omega arith in subst (λ (k : ℕ). rises (get_or rs i d) (get_or rs k d) ≡ true) e (last i d (omega arith)))
  ];
}
  where
    step : (d : UserKey × UserKey) → rises (get_or rs (n - 1) d) (get_or rs n d) ≡ true
    step d = (let a : get_or rs (n - 1) d ≡ x = get_or_default rs (n - 1) d x (omega arith) ∙ sym isx in
        let b : get_or rs n d ≡ y = get_or_default rs n d y lt ∙ sym isy in
        subst (λ (r : UserKey × UserKey). rises r (get_or rs n d) ≡ true) (sym a) (subst (λ (s : UserKey × UserKey). rises x s ≡ true) (sym b) xy))

    last : (i : ℕ) (d : UserKey × UserKey) → i ≤ n → rises (get_or rs i d) (get_or rs n d) ≡ true
    last i d le = elim (cases_lt i n) [
      | inl early ↦ rises_trans (get_or rs i d) (get_or rs (n - 1) d) (get_or rs n d) (h.later i (n - 1) d (omega arith) (omega arith)) (step d)
      | inr at ↦ (let e : i ≡ n = omega arith in subst (λ (k : ℕ). rises (get_or rs i d) (get_or rs k d) ≡ true) e (rises_refl (get_or rs i d)))
    ]

pub front_rises : (rs : List (UserKey × UserKey)) (n : ℕ) → n ≤ length rs → RisesTo rs n → IsRising (take n rs)
front_rises rs n le h = record {
  later = λ i j d low lt. (let bound : j < n = subst (λ (k : ℕ). j < k) (length-take-le n rs le) lt in
      let a : get_or (take n rs) i d ≡ get_or rs i d = get_or-take n rs i d (omega arith) in
      let b : get_or (take n rs) j d ≡ get_or rs j d = get_or-take n rs j d bound in
      subst (λ (r : UserKey × UserKey). rises r (get_or (take n rs) j d) ≡ true) (sym a) (subst (λ (s : UserKey × UserKey). rises (get_or rs i d) s ≡ true) (sym b) (h.later i j d low bound)));
}

-- ---- the search for a user key in a row

-- the range ends before the user key
abbrev pub ends_before : UserKey → UserKey × UserKey → Bool
ends_before k r = not (user_le k r.1)

not_true : (b : Bool) → not b ≡ true → b ≡ false
not_true true h = absurd (cc h)
not_true false h = refl

not_false : (b : Bool) → not b ≡ false → b ≡ true
not_false true h = refl
not_false false h = absurd (cc h)

pub parted : (rs : List (UserKey × UserKey)) (k : UserKey) → IsRising rs → IsPartitionedBy (ends_before k) rs
parted rs k h i j d le lt e =
    ap not (true_or_not (user_le k (get_or rs i d).1) (λ t. absurd (cc (
      not_true (user_le k (get_or rs j d).1) e,
      user_le_trans k (get_or rs i d).1 (get_or rs j d).1 t (rises_says (get_or rs i d) (get_or rs j d) (h.later i j d le lt)).1,
    ))))

none_of : (p : UserKey × UserKey → Bool) (rs : List (UserKey × UserKey)) → ((i : ℕ) (d : UserKey × UserKey) → i < length rs → p (get_or rs i d) ≡ false) → list_any p rs ≡ false
none_of p [] h = refl
none_of p (r ∷ rs) h = (let a : p r ≡ false = h 0 r (omega arith) in let b = none_of p rs (λ i d lt. h (suc i) d (omega arith)) in ap (λ (t : Bool). t || list_any p rs) a ∙ b)

false_first : (a b : Bool) → a ≡ false → (a && b) ≡ false
false_first a b h = ap (λ (t : Bool). t && b) h

false_second : (a b : Bool) → b ≡ false → (a && b) ≡ false
false_second true b h = h
false_second false b h = refl

pub not_in_row : (rs : List (UserKey × UserKey)) (k : UserKey) (n : ℕ) → length rs ≤ n → IsPartitionPoint (λ r. ends_before k r ≡ true) (λ r. ends_before k r ≡ false) rs n → covers rs k ≡ false
not_in_row rs k n le point =
    none_of (λ r. user_le r.0 k && user_le k r.1) rs (λ i d lt. false_second (user_le (get_or rs i d).0 k) (user_le k (get_or rs i d).1) (not_true (user_le k (get_or rs i d).1) (point.0 i d (omega arith) (omega arith))))

pub at_in_row : (rs : List (UserKey × UserKey)) (k : UserKey) (n : ℕ) (x : UserKey × UserKey) → IsRising rs → n < length rs → x ≡ get_or rs n x
    → IsPartitionPoint (λ r. ends_before k r ≡ true) (λ r. ends_before k r ≡ false) rs n → user_le x.0 k ≡ covers rs k
at_in_row rs k n x h lt is point = go (user_le x.0 k) refl
  where
    test : UserKey × UserKey → Bool
    test r = user_le r.0 k && user_le k r.1

    reached : user_le k x.1 ≡ true
    reached = subst (λ (r : UserKey × UserKey). user_le k r.1 ≡ true) (sym is) (not_false (user_le k (get_or rs n x).1) (point.1 n x (omega arith) lt))

    none : user_le x.0 k ≡ false → (i : ℕ) (d : UserKey × UserKey) → i < length rs → (user_le (get_or rs i d).0 k && user_le k (get_or rs i d).1) ≡ false
    none late i d inside = elim (cases_lt i n) [
      | inl early ↦ false_second (user_le (get_or rs i d).0 k) (user_le k (get_or rs i d).1) (not_true (user_le k (get_or rs i d).1) (point.0 i d (omega arith) early))
      | inr on ↦ false_first (user_le (get_or rs i d).0 k) (user_le k (get_or rs i d).1) (true_or_not (user_le (get_or rs i d).0 k) (λ t.
          (let same : get_or rs n d ≡ x = get_or_default rs n d x lt ∙ sym is in
          let first : UserLe x.0 (get_or rs i d).0 = subst (λ (r : UserKey × UserKey). UserLe r.0 (get_or rs i d).0) same (rises_says (get_or rs n d) (get_or rs i d) (h.later n i d on inside)).0 in
          absurd (cc (late, user_le_trans x.0 (get_or rs i d).0 k first t)))))
    ]

    go : (b : Bool) → user_le x.0 k ≡ b → user_le x.0 k ≡ covers rs k
    go true e = e ∙ sym (list_any_at (λ r. user_le r.0 k && user_le k r.1) rs n x lt (subst (λ (r : UserKey × UserKey). (user_le r.0 k && user_le k r.1) ≡ true) is (both_true e reached)))
    go false e = e ∙ sym (none_of (λ r. user_le r.0 k && user_le k r.1) rs (none e))

-- ---- rows one after another

pub whole_more : {X A : Type 0} (f : X → List A) (xs ys : List X) (x : X) (rest later whole : List A) → ys ≡ xs ++ x ∷ [] → rest ≡ f x ++ later → flat_map f xs ++ rest ≡ whole
    → flat_map f ys ++ later ≡ whole
whole_more {X} {A} f xs ys x rest later whole grown split before =
    ap (λ (l : List X). flat_map f l ++ later) grown ∙ ap (λ (l : List A). l ++ later) (flat_map-append f xs (x ∷ [])) ∙ append_assoc (flat_map f xs) (f x ++ []) later
    ∙ ap (λ (l : List A). flat_map f xs ++ l) (ap (λ (l : List A). l ++ later) (append-nil (f x)) ∙ sym split) ∙ before

-- an element is of one of the lists just where it is of one of them together
pub any_of_all : {X A : Type 0} (p : A → Bool) (f : X → List A) (xs : List X) → list_any p (flat_map f xs) ≡ list_any (λ x. list_any p (f x)) xs
any_of_all p f [] = refl
any_of_all p f (x ∷ xs) = list_any-append p (f x) (flat_map f xs) ∙ ap (λ (b : Bool). list_any p (f x) || b) (any_of_all p f xs)

-- a user key that one row has is one that all rows together have
pub in_one_row : (rows : List (Bor (List (UserKey × UserKey)))) (i : ℕ) (d : Bor (List (UserKey × UserKey))) (k : UserKey) → i < length rows → covers (get_or rows i d).now k ≡ true
    → covers (flat_map (λ row. row.now) rows) k ≡ true
in_one_row rows i d k lt h = any_of_all (λ r. user_le r.0 k && user_le k r.1) (λ row. row.now) rows ∙ list_any_at (λ row. covers row.now k) rows i d lt h

pub in_no_row : (rows : List (Bor (List (UserKey × UserKey)))) (k : UserKey) → list_any (λ row. covers row.now k) rows ≡ false → covers (flat_map (λ row. row.now) rows) k ≡ false
in_no_row rows k h = any_of_all (λ r. user_le r.0 k && user_le k r.1) (λ row. row.now) rows ∙ h
