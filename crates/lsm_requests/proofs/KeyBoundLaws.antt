-- Where bounds on user keys end.
use Rattle.std.proofs.Common.{◌≡◌, ◌≢◌, ◌⊎◌, ℕ, ◌<◌, Bool, true, false, [], ◌∷◌, Option, Some, None, refl, inl, inr, arith, subst, length, take}
use Rattle.std.proofs.Common.{Ordering, Less, Equal, Greater}
use Rattle.std.specs.Prelude.{◌&&◌, ◌||◌, ◌==◌, not}
use Rattle.std.specs.Cmp.{ranks}
use Rattle.std.specs.Cmp.Lexicographic.{pointwise, slice_cmp}
use Rattle.std.specs.List.{starts_with}
use Rattle.std.specs.Ordering.{MatchOrdering, is_le, nat_cmp, ordering_then}
use Rattle.std.proofs.lemmas.Bool.{cases_Bool}
use Rattle.lsm_codec.specs.Keys.{UserKey, UserLe, user_le}
use Rattle.lsm_codec.proofs.CallerLemmas.{user_le_antisym, user_le_trans}
use Rattle.lsm_requests.specs.KeyBounds.{begins_so, ends_at, has_passed, has_reached, is_from, is_to, is_within}
use Rattle.lsm_requests.specs.declared.key_bounds.KeyBounds.{KeyBounds}

-- ---- the last one

not_above : (to later : UserKey) → UserLe to later → to ≢ later → user_le later to ≡ false
not_above to later le other = elim (cases_Bool (user_le later to)) [
  | inl below ↦ absurd (other (user_le_antisym to later le below))
  | inr above ↦ above
]

-- a key that is not the last one, behind one that has reached that
past_last : (to : Option UserKey) (key later : UserKey) → has_reached to key ≡ true → UserLe key later → key ≢ later → is_to to later ≡ false
past_last None key later reached le other = absurd cc
past_last (Some to) key later reached le other =
    not_above to later (user_le_trans to key later reached le) (λ same. other (user_le_antisym key later le (subst (λ (k : UserKey). UserLe k key) same reached)))

-- ---- those that begin with some bytes

left_false : (a b : Bool) → a ≡ false → (a && b) ≡ false
left_false a b h = rw h refl

right_false : (a b : Bool) → b ≡ false → (a && b) ≡ false
right_false true b h = h
right_false false b h = refl

behind_true : (a b : Bool) → a ≡ true → (a && b) ≡ false → b ≡ false
behind_true true b h k = k
behind_true false b h k = absurd cc

apart : (a b : ℕ) → a < b → (a == b) ≡ false
apart a b h = grind arith

alike : (a b : ℕ) → a ≡ b → (a == b) ≡ true
alike a b h = grind arith

-- the first bytes of a beginning and of two keys, and what holds of the others
heads : (p k l : ℕ) (o q r s : Ordering) (in_key in_later : Bool) → MatchOrdering o (p < k) (p ≡ k) (k < p) → MatchOrdering q (k < l) (k ≡ l) (l < k)
    → is_le (ordering_then o r) ≡ true → is_le (ordering_then q s) ≡ true → ((p == k) && in_key) ≡ false
    → (in_key ≡ false → is_le r ≡ true → is_le s ≡ true → in_later ≡ false) → ((p == l) && in_later) ≡ false
heads p k l Less Less r s in_key in_later a b le_key le_later outside others = left_false (p == l) in_later (apart p l (omega (arith, a, b)))
heads p k l Less Equal r s in_key in_later a b le_key le_later outside others = left_false (p == l) in_later (apart p l (omega (arith, a, b)))
heads p k l Less Greater r s in_key in_later a b le_key le_later outside others = absurd (cc le_later)
heads p k l Equal Less r s in_key in_later a b le_key le_later outside others = left_false (p == l) in_later (apart p l (omega (arith, a, b)))
heads p k l Equal Equal r s in_key in_later a b le_key le_later outside others =
    right_false (p == l) in_later (others (behind_true (p == k) in_key (alike p k a) outside) le_key le_later)
heads p k l Equal Greater r s in_key in_later a b le_key le_later outside others = absurd (cc le_later)
heads p k l Greater q r s in_key in_later a b le_key le_later outside others = absurd (cc le_key)

-- A key that does not begin so, and is not below those that do: no later one begins so.
past_beginning : (prefix key later : UserKey) → is_le (slice_cmp nat_cmp prefix key) ≡ true → is_le (slice_cmp nat_cmp key later) ≡ true
    → starts_with ◌==◌ key prefix ≡ false → starts_with ◌==◌ later prefix ≡ false
past_beginning [] key later le_key le_later outside = absurd cc
past_beginning (p ∷ ps) [] later le_key le_later outside = absurd cc
past_beginning (p ∷ ps) (k ∷ ks) [] le_key le_later outside = absurd cc
past_beginning (p ∷ ps) (k ∷ ks) (l ∷ ls) le_key le_later outside =
    heads p k l (nat_cmp p k) (nat_cmp k l) (slice_cmp nat_cmp ps ks) (slice_cmp nat_cmp ks ls) (pointwise ◌==◌ ps (take (length ps) ks)) (pointwise ◌==◌ ps (take (length ps) ls))
    (ranks p k) (ranks k l) le_key le_later outside (λ out le_ks le_ls. past_beginning ps ks ls le_ks le_ls out)

both_true : (a b : Bool) → (a && b) ≡ true → (a ≡ true) × (b ≡ true)
both_true true b h = (refl, h)
both_true false b h = absurd cc

is_not : (a : Bool) → not a ≡ true → a ≡ false
is_not true h = absurd cc
is_not false h = refl

past_those : (prefix : Option UserKey) (key later : UserKey) → has_passed prefix key ≡ true → UserLe key later → begins_so prefix later ≡ false
unfolding user_le
past_those None key later passed le = absurd cc
past_those (Some prefix) key later passed le =
    let both = both_true (not (starts_with ◌==◌ key prefix)) (user_le prefix key) passed in
    past_beginning prefix key later both.1 le (is_not (starts_with ◌==◌ key prefix) both.0)

-- ---- both

pub or_left : (a b : Bool) → a ≡ true → (a || b) ≡ true
or_left true b h = refl
or_left false b h = absurd cc

pub or_right : (a b : Bool) → b ≡ true → (a || b) ≡ true
or_right true b h = refl
or_right false b h = h

either_true : (a b : Bool) → (a || b) ≡ true → (a ≡ true) ⊎ (b ≡ true)
either_true true b h = inl refl
either_true false b h = inr h

-- no greater key is within
pub none_later : (bounds : KeyBounds) (key : UserKey) → ends_at bounds key ≡ true → (later : UserKey) → UserLe key later → key ≢ later → is_within bounds later ≡ false
none_later bounds key ends later le other = elim (either_true (has_reached bounds.to key) (has_passed bounds.prefix key) ends) [
  | inl reached ↦
      let above = past_last bounds.to key later reached le other in
      left_false (is_from bounds.from later && is_to bounds.to later) (begins_so bounds.prefix later) (right_false (is_from bounds.from later) (is_to bounds.to later) above)
  | inr passed ↦
      let outside = past_those bounds.prefix key later passed le in
      right_false (is_from bounds.from later && is_to bounds.to later) (begins_so bounds.prefix later) outside
]
