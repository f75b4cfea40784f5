-- The order of keys by their bytes, and keys that are kept.
use Rattle.std.proofs.Common.{◌≡◌, ℕ, ◌+◌, ◌-◌, ◌<◌, Bool, true, false, cond, ltb, eqb, Ordering, Less, Equal, Greater, Option, Some, None, List, [], length, drop, refl, sym, ap, ◌∙◌, subst, arith}
use Rattle.std.proofs.lemmas.List.{length-drop}
use Rattle.std.specs.Ordering.{nat_cmp, is_lt}
use Rattle.std.specs.Cmp.Lexicographic.{slice_cmp}
use Rattle.lsm_codec.specs.Keys.{InternalKey, IsKey, packed, key_bytes, then_by, key_cmp, is_internal, user_of, tail_of, key_at}
use Rattle.lsm_codec.proofs.CallerLemmas.{IsBytes, internal_takes, internal_of, length-key_bytes, IsKey-unique}
use Rattle.lsm_block.specs.Held.{Kept, bytes_of, last_if, last_of}

-- how many bytes of a key are left beyond so many
pub length-unshared : (shared : ℕ) (k : InternalKey) → length k.user + 8 - shared ≡ length (drop shared (key_bytes k))
length-unshared shared k = omega (arith, length-drop shared (key_bytes k), length-key_bytes k)

-- ---- the order, by the bytes

less_than : (x y : ℕ) → is_lt (nat_cmp x y) ≡ ltb x y
less_than x y = less_cases (ltb x y) (eqb x y)
  where
    less_cases : (b e : Bool) → is_lt (cond b Less (cond e Equal Greater)) ≡ b
    less_cases true e = refl
    less_cases false true = refl
    less_cases false false = refl

-- the order of two keys, by what their bytes show
pub order_at : (a b : List ℕ) → IsBytes a → IsBytes b → is_internal a ≡ true → is_internal b ≡ true
    → is_lt (key_cmp (key_at a) (key_at b)) ≡ is_lt (then_by (slice_cmp nat_cmp (user_of a) (user_of b)) (nat_cmp (tail_of b) (tail_of a)))
unfolding key_at
order_at a b fa fb ha hb =
    let x = (internal_takes a fa ha).packed_is in
    let y = (internal_takes b fb hb).packed_is in
    rw (x, y) refl

pub order_less : (a b : List ℕ) (o : Ordering) → IsBytes a → IsBytes b → is_internal a ≡ true → is_internal b ≡ true → slice_cmp nat_cmp (user_of a) (user_of b) ≡ o
    → is_lt (key_cmp (key_at a) (key_at b)) ≡ is_lt (then_by o (nat_cmp (tail_of b) (tail_of a)))
order_less a b o fa fb ha hb e = order_at a b fa fb ha hb ∙ ap (λ (p : Ordering). is_lt (then_by p (nat_cmp (tail_of b) (tail_of a)))) e

pub order_equal : (a b : List ℕ) → IsBytes a → IsBytes b → is_internal a ≡ true → is_internal b ≡ true → slice_cmp nat_cmp (user_of a) (user_of b) ≡ Equal
    → is_lt (key_cmp (key_at a) (key_at b)) ≡ ltb (tail_of b) (tail_of a)
order_equal a b fa fb ha hb e = order_less a b Equal fa fb ha hb e ∙ less_than (tail_of b) (tail_of a)

-- the order of a key that bytes are and another
pub below_by : (a : List ℕ) (k : InternalKey) (o : Ordering) → IsBytes a → is_internal a ≡ true → slice_cmp nat_cmp (user_of a) k.user ≡ o
    → is_lt (key_cmp (key_at a) k) ≡ is_lt (then_by o (nat_cmp (packed k) (tail_of a)))
unfolding key_at
below_by a k o fa ha e =
    let x = (internal_takes a fa ha).packed_is in
    rw x (ap (λ (p : Ordering). is_lt (then_by p (nat_cmp (packed k) (tail_of a)))) e)

pub below_equal : (a : List ℕ) (k : InternalKey) → IsBytes a → is_internal a ≡ true → slice_cmp nat_cmp (user_of a) k.user ≡ Equal
    → is_lt (key_cmp (key_at a) k) ≡ ltb (packed k) (tail_of a)
below_equal a k fa ha e = below_by a k Equal fa ha e ∙ less_than (packed k) (tail_of a)

-- ---- a key that is kept

pub kept_some : (o : Option InternalKey) (bytes : List ℕ) (k : InternalKey) → Kept o bytes → IsKey bytes k → Some k ≡ o
kept_some None bytes k h g = absurd (omega (arith, ap (λ (xs : List ℕ). length xs) h, ap (λ (xs : List ℕ). length xs) g.bytes_are, length-key_bytes k))
kept_some (Some j) bytes k h g = ap (λ (x : InternalKey). Some x) (IsKey-unique bytes k j g h)

pub kept_none : (o : Option InternalKey) (bytes : List ℕ) → Kept o bytes → ((k : InternalKey) → IsKey bytes k → ⊥) → None ≡ o
kept_none None bytes h not = refl
kept_none (Some k) bytes h not = absurd (not k h)

pub kept_bytes : (o : Option InternalKey) (bytes : List ℕ) → Kept o bytes → bytes ≡ bytes_of o
kept_bytes None bytes h = h
kept_bytes (Some k) bytes h = h.bytes_are

-- bytes of a key are kept as it
pub last-key : (bytes : List ℕ) → is_internal bytes ≡ true → last_of bytes ≡ Some (key_at bytes)
unfolding last_of
last-key bytes h = ap (λ (b : Bool). last_if b bytes) h

pub kept_as : (bytes : List ℕ) → IsKey bytes (key_at bytes) → Kept (last_of bytes) bytes
kept_as bytes h = subst (λ (o : Option InternalKey). Kept o bytes) (sym (last-key bytes (internal_of bytes (key_at bytes) h))) h

pub kept_internal : (bytes : List ℕ) → Kept (last_of bytes) bytes → 0 < length bytes → is_internal bytes ≡ true
unfolding last_of
kept_internal bytes kept some = by_test (is_internal bytes) refl
  where
    by_test : (b : Bool) → is_internal bytes ≡ b → is_internal bytes ≡ true
    by_test true e = e
    by_test false e =
        let none : bytes ≡ [] = subst (λ (b : Bool). Kept (last_if b bytes) bytes) e kept in
        absurd (omega (arith, some, ap (λ (xs : List ℕ). length xs) none))

pub no_last : last_of [] ≡ None
unfolding last_of is_internal
no_last = refl

pub none_kept : Kept (last_of []) []
unfolding last_of is_internal
none_kept = refl
