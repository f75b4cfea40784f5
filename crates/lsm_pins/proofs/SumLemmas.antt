-- Sums over the views, and the parts of the head word.
use Rattle.std.proofs.Common.{◌≡◌, ℕ, zero, suc, ◌+◌, ◌*◌, ◌^◌, ◌<◌, ◌≤◌, Bool, true, false, cond, Some, List, [], ◌∷◌, ◌++◌, set, refl, ap, arith}
use Rattle.std.proofs.lemmas.List.Sums.{sum_by-set, sum_by-append, sum_by-cons}
use Rattle.std.proofs.lemmas.Option.{none-some, same_Some, slice_get_within, get_or_from_slice_get}
use Rattle.std.specs.Prelude.{slice_get, sum_by}
use Rattle.lsm_pins.specs.declared.view.View.{View}
use Rattle.lsm_pins.specs.Head.{head_of, slot_in, id_in, count_in}

module _ (f : View → ℕ) where
  pub sum_set : (l : List View) (i : ℕ) (v w : View) → slice_get l i ≡ Some v → sum_by f (set l i w) + f v ≡ sum_by f l + f w
  sum_set l i v w e =
      let sum = sum_by-set f l i w v (slice_get_within l i v e) in
      let is = ap f (get_or_from_slice_get l i v v e) in
      omega arith

  pub sum_same : (l : List View) (i : ℕ) (v w : View) → slice_get l i ≡ Some v → f w ≡ f v → sum_by f (set l i w) ≡ sum_by f l
  sum_same l i v w e same = let r = sum_set l i v w e in omega arith

  pub sum_snoc : (l : List View) (v : View) → sum_by f (l ++ v ∷ []) ≡ sum_by f l + f v
  sum_snoc l v = let a = sum_by-append f l (v ∷ []) in omega arith

  -- one of the terms
  pub sum_has : (l : List View) (i : ℕ) (v : View) → slice_get l i ≡ Some v → f v ≤ sum_by f l
  sum_has [] i v e = absurd (none-some v e)
  sum_has (x ∷ xs) zero v e = let c = sum_by-cons f x xs in let is : f x ≡ f v = ap f (same_Some x v e) in omega arith
  sum_has (x ∷ xs) (suc i) v e = let c = sum_by-cons f x xs in let r = sum_has xs i v e in omega arith

  pub sum_none : (l : List View) → ((i : ℕ) (v : View) → slice_get l i ≡ Some v → f v ≡ 0) → sum_by f l ≡ 0
  sum_none [] h = refl
  sum_none (x ∷ xs) h = let c = sum_by-cons f x xs in let a = h 0 x refl in let r = sum_none xs (λ i v e. h (suc i) v e) in omega arith

  pub sum_few : (g : View → ℕ) (l : List View) → ((i : ℕ) (v : View) → slice_get l i ≡ Some v → f v ≤ 2 ^ 24 * g v) → sum_by f l ≤ 2 ^ 24 * sum_by g l
  sum_few g [] h = omega arith
  sum_few g (x ∷ xs) h =
      let c = sum_by-cons f x xs in
      let d = sum_by-cons g x xs in
      let a = h 0 x refl in
      let r = sum_few g xs (λ i v e. h (suc i) v e) in
      omega arith

pub cond_add : (b : Bool) (m n : ℕ) → cond b (m + n) 0 ≡ cond b m 0 + cond b n 0
cond_add true m n = refl
cond_add false m n = refl

pub cond_le : (b : Bool) (m : ℕ) → cond b m 0 ≤ m
cond_le true m = omega arith
cond_le false m = omega arith

module _ (slot id count : ℕ) (id_small : id < 2 ^ 28) (count_small : count < 2 ^ 30) where
  pub slot_of_head : slot_in (head_of slot id count) ≡ slot
  slot_of_head = omega arith

  pub id_of_head : id_in (head_of slot id count) ≡ id
  id_of_head = omega arith

  pub count_of_head : count_in (head_of slot id count) ≡ count
  count_of_head = omega arith
