-- User keys that have the same bytes at their fronts.
use Rattle.std.proofs.Common.{◌≡◌, ℕ, zero, suc, ◌+◌, ◌<◌, ◌≤◌, Bool, true, false, cond, eqb, List, [], ◌∷◌, length, take, drop, get_or, Ordering, Less, Equal, Greater, nat_lt, slice_index, ◌⊎◌, inl, inr, refl, sym, ap, ◌∙◌, subst, arith}
use Rattle.std.specs.Ordering.{nat_cmp, ordering_reverse, ordering_then}
use Rattle.std.specs.Cmp.Lexicographic.{slice_cmp}
use Rattle.std.proofs.lemmas.Bool.{eqb-true, eq-eqb}
use Rattle.std.specs.Cmp.{nat_cmp_is}
use Rattle.std.proofs.lemmas.Cmp.{nat_cmp_total, nat_list_cmp_total, tied_itself}
use Rattle.std.proofs.lemmas.List.{take-take}
use Rattle.lsm_codec.specs.Keys.{UserKey, then_by}
use Rattle.lsm_block.specs.Building.{common, one_more}
use Rattle.lsm_block.specs.Standing.{SharesFront}

pub shares_none : (a b : UserKey) → SharesFront 0 a b
shares_none a b = record { same = refl; first = omega arith; second = omega arith }

pub shares_less : (m n : ℕ) (a b : UserKey) → m ≤ n → SharesFront n a b → SharesFront m a b
shares_less m n a b le s = record {
  same = sym (take-take m n a le) ∙ ap (take m) s.same ∙ take-take m n b le;
  first = (let x = s.first in omega arith);
  second = (let x = s.second in omega arith);
}

pub shares_swapped : (n : ℕ) (a b : UserKey) → SharesFront n a b → SharesFront n b a
shares_swapped n a b s = record { same = sym s.same; first = s.second; second = s.first }

pub shares_through : (n : ℕ) (a b c : UserKey) → SharesFront n a b → SharesFront n b c → SharesFront n a c
shares_through n a b c s t = record { same = s.same ∙ t.same; first = s.first; second = t.second }

-- the first byte of a front, and what is shared behind it
first_byte : (n : ℕ) (x y : ℕ) (a b : UserKey) → SharesFront (suc n) (x ∷ a) (y ∷ b) → x ≡ y
first_byte n x y a b s = ap (λ (l : List ℕ). get_or l 0 0) s.same

behind_byte : (n : ℕ) (x y : ℕ) (a b : UserKey) → SharesFront (suc n) (x ∷ a) (y ∷ b) → SharesFront n a b
behind_byte n x y a b s = record { same = ap (drop 1) s.same; first = (let x = s.first in omega arith); second = (let x = s.second in omega arith) }

-- the same bytes behind a front are more of it
more_by : (n m k : ℕ) (a b : UserKey) → k ≡ n + m → SharesFront n a b → SharesFront m (drop n a) (drop n b) → SharesFront k a b
more_by zero m k a b e s t = (let same : k ≡ m = omega (arith, e) in rw same t)
more_by (suc n) m k [] b e s t = (let x = s.first in absurd (omega arith))
more_by (suc n) m k (x ∷ a) [] e s t = (let x = s.second in absurd (omega arith))
more_by (suc n) m k (x ∷ a) (y ∷ b) e s t =
    let more = more_by n m (n + m) a b refl (behind_byte n x y a b s) t in
    let next : k ≡ suc (n + m) = omega (arith, e) in
    rw next record {
      same = ap (λ (z : ℕ). z ∷ take (n + m) a) (first_byte n x y a b s) ∙ ap (λ (l : List ℕ). y ∷ l) more.same;
      first = (let x = more.first in omega arith);
      second = (let x = more.second in omega arith);
    }

pub shares_more : (n m : ℕ) (a b : UserKey) → SharesFront n a b → SharesFront m (drop n a) (drop n b) → SharesFront (n + m) a b
shares_more n m a b s t = more_by n m (n + m) a b refl s t

-- what both have in common
pub shares_common : (a b : UserKey) → SharesFront (common a b) a b
unfolding common
shares_common [] b = record { same = refl; first = omega arith; second = omega arith }
shares_common (x ∷ a) [] = record { same = refl; first = omega arith; second = omega arith }
shares_common (x ∷ a) (y ∷ b) = next (eqb x y) (λ h. eqb-true x y h) (shares_common a b)
  where
    next : (t : Bool) → (t ≡ true → x ≡ y) → SharesFront (common a b) a b → SharesFront (one_more t (common a b)) (x ∷ a) (y ∷ b)
    next true same s = record {
      same = ap (λ (z : ℕ). z ∷ take (common a b) a) (same refl) ∙ ap (λ (l : List ℕ). y ∷ l) s.same;
      first = (let h = s.first in omega arith);
      second = (let h = s.second in omega arith);
    }
    next false same s = shares_none (x ∷ a) (y ∷ b)

-- the order goes by what stands behind
pub cmp_behind : (n : ℕ) (a b : UserKey) → SharesFront n a b → slice_cmp nat_cmp (drop n a) (drop n b) ≡ slice_cmp nat_cmp a b
cmp_behind zero a b s = refl
cmp_behind (suc n) [] b s = (let x = s.first in absurd (omega arith))
cmp_behind (suc n) (x ∷ a) [] s = (let x = s.second in absurd (omega arith))
cmp_behind (suc n) (x ∷ a) (y ∷ b) s =
    cmp_behind n a b (behind_byte n x y a b s)
    ∙ sym (ap (λ (z : ℕ). ordering_then (nat_cmp x z) (slice_cmp nat_cmp a b)) (sym (first_byte n x y a b s)) ∙ ap (λ (o : Ordering). ordering_then o (slice_cmp nat_cmp a b)) (tied_itself nat_cmp_total x))

-- the first bytes tell the order where they differ, or else the lengths where one has none
pub cmp_lengths : (a b : UserKey) → (length a ≡ 0) ⊎ (length b ≡ 0) → nat_cmp (length a) (length b) ≡ slice_cmp nat_cmp a b
cmp_lengths [] [] h = refl
cmp_lengths [] (y ∷ b) h = sym (nat_cmp_is 0 (suc (length b)) Less (omega arith))
cmp_lengths (x ∷ a) [] h = sym (nat_cmp_is (suc (length a)) 0 Greater (omega arith))
cmp_lengths (x ∷ a) (y ∷ b) h = elim h [
  | inl e ↦ absurd (omega (arith, e))
  | inr e ↦ absurd (omega (arith, e))
]

apart : (lt eq : Bool) (o : Ordering) → eq ≡ false → ordering_then (cond lt Less (cond eq Equal Greater)) o ≡ cond lt Less (cond eq Equal Greater)
apart true eq o h = refl
apart false true o h = absurd cc
apart false false o h = refl

pub cmp_first : (a b : UserKey) → 0 < length a → 0 < length b → common a b ≡ 0 → nat_cmp (slice_index a 0) (slice_index b 0) ≡ slice_cmp nat_cmp a b
unfolding common
cmp_first [] b p q h = absurd (omega (arith, p))
cmp_first (x ∷ a) [] p q h = absurd (omega (arith, q))
cmp_first (x ∷ a) (y ∷ b) p q h = sym (apart (nat_lt x y) (eqb x y) (slice_cmp nat_cmp a b) (differ (eqb x y) h))
  where
    differ : (t : Bool) → one_more t (common a b) ≡ 0 → t ≡ false
    differ true e = absurd (omega (arith, e))
    differ false e = refl

same_test : (x y : ℕ) (t e : Bool) → eqb x y ≡ t → eqb y x ≡ e → t ≡ e
same_test x y true true p q = refl
same_test x y false false p q = refl
same_test x y true false p q = sym (eq-eqb y x (sym (eqb-true x y p))) ∙ q
same_test x y false true p q = sym p ∙ eq-eqb x y (sym (eqb-true y x q))

pub common_swapped : (a b : UserKey) → common a b ≡ common b a
unfolding common
common_swapped [] [] = refl
common_swapped [] (y ∷ b) = refl
common_swapped (x ∷ a) [] = refl
common_swapped (x ∷ a) (y ∷ b) =
    ap (λ (t : Bool). one_more t (common a b)) (same_test x y (eqb x y) (eqb y x) refl refl) ∙ ap (one_more (eqb y x)) (common_swapped a b)

-- what both have in common, by a front that they share
pub common_behind : (n : ℕ) (a b : UserKey) → SharesFront n a b → common a b ≡ n + common (drop n a) (drop n b)
unfolding common
common_behind zero a b s = omega arith
common_behind (suc n) [] b s = (let x = s.first in absurd (omega arith))
common_behind (suc n) (x ∷ a) [] s = (let x = s.second in absurd (omega arith))
common_behind (suc n) (x ∷ a) (y ∷ b) s =
    let behind = common_behind n a b (behind_byte n x y a b s) in
    let more : suc (common a b) ≡ suc n + common (drop n a) (drop n b) = omega (arith, behind) in
    ap (λ (t : Bool). one_more t (common a b)) (eq-eqb x y (first_byte n x y a b s)) ∙ more

pub common_none_first : (b : UserKey) → 0 ≡ common [] b
unfolding common
common_none_first b = refl

pub common_none_second : (a : UserKey) → 0 ≡ common a []
unfolding common
common_none_second [] = refl
common_none_second (x ∷ a) = refl

-- what both have in common is none of what stands behind it
pub common_no_more : (a b : UserKey) → common (drop (common a b) a) (drop (common a b) b) ≡ 0
common_no_more a b = (let e = common_behind (common a b) a b (shares_common a b) in omega (arith, e))

-- ---- a key that shares more with the one before it than that has in common with a third: to the
-- third it stands as the one before it does

pub common_kept : (n : ℕ) (u v w : UserKey) → SharesFront n u v → common u w < n → common v w ≡ common u w
unfolding common
common_kept zero u v w s h = absurd (omega (arith, h))
common_kept (suc n) [] v w s h = (let x = s.first in absurd (omega arith))
common_kept (suc n) (x ∷ a) [] w s h = (let x = s.second in absurd (omega arith))
common_kept (suc n) (x ∷ a) (y ∷ b) [] s h = refl
common_kept (suc n) (x ∷ a) (y ∷ b) (z ∷ c) s h =
    subst (λ (first : ℕ). one_more (eqb first z) (common b c) ≡ one_more (eqb x z) (common a c)) (first_byte n x y a b s)
    (next (eqb x z) h (λ less. common_kept n a b c (behind_byte n x y a b s) less))
  where
    next : (t : Bool) → one_more t (common a c) < suc n → (common a c < n → common b c ≡ common a c) → one_more t (common b c) ≡ one_more t (common a c)
    next true less behind = ap suc (behind (omega (arith, less)))
    next false less behind = refl

-- the same, with the sides exchanged
pub common_kept_by : (n : ℕ) (u v w : UserKey) → SharesFront n u v → common w u < n → common w v ≡ common w u
common_kept_by n u v w s h =
    common_swapped w v ∙ common_kept n u v w s (subst (λ (m : ℕ). m < n) (common_swapped w u) h) ∙ common_swapped u w

tied : (x z : ℕ) (o : Ordering) → eqb x z ≡ true → ordering_then (nat_cmp x z) o ≡ o
tied x z o h = ap (λ (y : ℕ). ordering_then (nat_cmp x y) o) (sym (eqb-true x z h)) ∙ ap (λ (r : Ordering). ordering_then r o) (tied_itself nat_cmp_total x)

-- an order that bytes tell is none that what stands behind them tells
told : (lt eq : Bool) (o p s t : Ordering) → eq ≡ false
    → then_by (ordering_then (cond lt Less (cond eq Equal Greater)) o) s ≡ then_by (ordering_then (cond lt Less (cond eq Equal Greater)) p) t
told true eq o p s t h = refl
told false true o p s t h = absurd cc
told false false o p s t h = refl

pub order_kept : (n : ℕ) (u v w : UserKey) (s t : Ordering) → SharesFront n u v → common u w < n → then_by (slice_cmp nat_cmp v w) t ≡ then_by (slice_cmp nat_cmp u w) s
unfolding common
order_kept zero u v w s t f h = absurd (omega (arith, h))
order_kept (suc n) [] v w s t f h = (let x = f.first in absurd (omega arith))
order_kept (suc n) (x ∷ a) [] w s t f h = (let x = f.second in absurd (omega arith))
order_kept (suc n) (x ∷ a) (y ∷ b) [] s t f h = refl
order_kept (suc n) (x ∷ a) (y ∷ b) (z ∷ c) s t f h =
    subst (λ (first : ℕ). then_by (ordering_then (nat_cmp first z) (slice_cmp nat_cmp b c)) t ≡ then_by (ordering_then (nat_cmp x z) (slice_cmp nat_cmp a c)) s) (first_byte n x y a b f)
    (next (eqb x z) refl h (λ less. order_kept n a b c s t (behind_byte n x y a b f) less))
  where
    next : (e : Bool) → eqb x z ≡ e → one_more e (common a c) < suc n
        → (common a c < n → then_by (slice_cmp nat_cmp b c) t ≡ then_by (slice_cmp nat_cmp a c) s)
        → then_by (ordering_then (nat_cmp x z) (slice_cmp nat_cmp b c)) t ≡ then_by (ordering_then (nat_cmp x z) (slice_cmp nat_cmp a c)) s
    next true e less behind =
        ap (λ (o : Ordering). then_by o t) (tied x z (slice_cmp nat_cmp b c) e)
        ∙ behind (omega (arith, less))
        ∙ sym (ap (λ (o : Ordering). then_by o s) (tied x z (slice_cmp nat_cmp a c) e))
    next false e less behind = told (nat_lt x z) (eqb x z) (slice_cmp nat_cmp b c) (slice_cmp nat_cmp a c) t s e

reversed : (o t : Ordering) → then_by (ordering_reverse o) t ≡ ordering_reverse (then_by o (ordering_reverse t))
reversed Less t = refl
reversed Equal Less = refl
reversed Equal Equal = refl
reversed Equal Greater = refl
reversed Greater t = refl

order_swapped : (a b : UserKey) (t : Ordering) → then_by (slice_cmp nat_cmp a b) t ≡ ordering_reverse (then_by (slice_cmp nat_cmp b a) (ordering_reverse t))
order_swapped a b t = ap (λ (o : Ordering). then_by o t) (nat_list_cmp_total.antisymm a b) ∙ reversed (slice_cmp nat_cmp b a) t

-- the same, with the sides exchanged
pub order_kept_by : (n : ℕ) (u v w : UserKey) (s t : Ordering) → SharesFront n u v → common w u < n → then_by (slice_cmp nat_cmp w v) t ≡ then_by (slice_cmp nat_cmp w u) s
order_kept_by n u v w s t f h =
    order_swapped w v t
    ∙ ap ordering_reverse (order_kept n u v w (ordering_reverse s) (ordering_reverse t) f (subst (λ (m : ℕ). m < n) (common_swapped w u) h))
    ∙ sym (order_swapped w u s)
