-- The order of entries, by its parts; the order in which they are handed out is total and
-- transitive.
use Rattle.std.proofs.Common.{◌≡◌, ℕ, ◌≤◌, ◌<◌, Bool, true, false, Ordering, Less, Equal, Greater, refl, sym, ◌∙◌, ap, subst, inl, inr, arith}
use Rattle.std.specs.Prelude.{◌⊎◌}
use Rattle.std.specs.Cmp.{ranks, nat_cmp_is}
use Rattle.std.specs.Cmp.Lexicographic.{slice_cmp}
use Rattle.std.specs.Ordering.{nat_cmp, is_le, is_eq, MatchOrdering}
use Rattle.std.proofs.lemmas.Map.Text.{is_eq-slice_cmp}
use Rattle.lsm_codec.specs.Entries.{Entry, stamp}
use Rattle.lsm_codec.specs.Keys.{UserKey, UserLe, user_le, then_by}
use Rattle.lsm_codec.proofs.CallerLemmas.{key_from_test, test_from_key, user_le_trans, user_le_total, user_le_antisym, user_le_refl}
use Rattle.lsm_model.specs.Files.{Before}
use Rattle.lsm_model.specs.Merging.{goes_first}

user_less : (a b : UserKey) → slice_cmp nat_cmp a b ≡ Less → UserLe a b × (a ≡ b → ⊥)
unfolding user_le
user_less a b e = (ap is_le e, λ same. absurd (cc (ap is_eq e, is_eq-slice_cmp a b, test_from_key a b same)))

user_equal : (a b : UserKey) → slice_cmp nat_cmp a b ≡ Equal → a ≡ b
user_equal a b e = key_from_test a b (sym (is_eq-slice_cmp a b) ∙ ap is_eq e)

user_greater : (a b : UserKey) → slice_cmp nat_cmp a b ≡ Greater → UserLe a b → ⊥
unfolding user_le
user_greater a b e le = absurd (cc (ap is_le e, le))

-- what a comparison of numbers says
abbrev RankOf : ℕ → ℕ → Ordering → Type 0
RankOf m n Less = m < n
RankOf m n Equal = m ≡ n
RankOf m n Greater = n < m

rank_of : (m n : ℕ) (o : Ordering) → nat_cmp m n ≡ o → RankOf m n o
rank_of m n o e = subst (RankOf m n) e (go (nat_cmp m n) (ranks m n))
  where
    go : (o : Ordering) → MatchOrdering o (m < n) (m ≡ n) (n < m) → RankOf m n o
    go Less h = h
    go Equal h = h
    go Greater h = h

-- x stands before y, by the parts of their keys
abbrev pub Precedes : Entry → Entry → Type 0
Precedes x y = (UserLe x.user y.user × (x.user ≡ y.user → ⊥)) ⊎ ((x.user ≡ y.user) × (stamp y < stamp x))

pub before_says : (x y : Entry) → Before x y → Precedes x y
before_says x y h = go (slice_cmp nat_cmp x.user y.user) refl h
  where
    go : (o : Ordering) → slice_cmp nat_cmp x.user y.user ≡ o → then_by o (nat_cmp (stamp y) (stamp x)) ≡ Less → Precedes x y
    go Less e t = inl (user_less x.user y.user e)
    go Equal e t = inr (user_equal x.user y.user e, rank_of (stamp y) (stamp x) Less t)
    go Greater e t = absurd (cc t)

pub before_from : (x y : Entry) → Precedes x y → Before x y
before_from x y p = go (slice_cmp nat_cmp x.user y.user) refl p
  where
    go : (o : Ordering) → slice_cmp nat_cmp x.user y.user ≡ o → Precedes x y → then_by o (nat_cmp (stamp y) (stamp x)) ≡ Less
    go Less e q = refl
    go Equal e (inl k) = absurd (k.1 (user_equal x.user y.user e))
    go Equal e (inr s) = sym (nat_cmp_is (stamp y) (stamp x) Less s.1)
    go Greater e (inl k) = absurd (user_greater x.user y.user e k.0)
    go Greater e (inr s) = absurd (user_greater x.user y.user e (subst (UserLe x.user) s.0 (user_le_refl x.user)))

-- x before y in the order, or alike there
abbrev pub Firstly : Entry → Entry → Type 0
Firstly x y = ((x.user ≡ y.user) × (stamp y ≤ stamp x)) ⊎ ((x.user ≡ y.user → ⊥) × UserLe x.user y.user)

pub first_says : (x y : Entry) → goes_first x y ≡ true → Firstly x y
unfolding goes_first
first_says x y h = go (slice_cmp nat_cmp x.user y.user) refl h
  where
    at : (o : Ordering) → nat_cmp (stamp y) (stamp x) ≡ o → is_le o ≡ true → stamp y ≤ stamp x
    at Less e t = (let r = rank_of (stamp y) (stamp x) Less e in omega arith)
    at Equal e t = (let r = rank_of (stamp y) (stamp x) Equal e in omega arith)
    at Greater e t = absurd (cc t)

    go : (o : Ordering) → slice_cmp nat_cmp x.user y.user ≡ o → is_le (then_by o (nat_cmp (stamp y) (stamp x))) ≡ true → Firstly x y
    go Less e t = (let p = user_less x.user y.user e in inr (p.1, p.0))
    go Equal e t = inl (user_equal x.user y.user e, at (nat_cmp (stamp y) (stamp x)) refl t)
    go Greater e t = absurd (cc t)

pub first_from : (x y : Entry) → Firstly x y → goes_first x y ≡ true
unfolding goes_first
first_from x y p = go (slice_cmp nat_cmp x.user y.user) refl p
  where
    at : (o : Ordering) → nat_cmp (stamp y) (stamp x) ≡ o → stamp y ≤ stamp x → is_le o ≡ true
    at Less e le = refl
    at Equal e le = refl
    at Greater e le = (let r = rank_of (stamp y) (stamp x) Greater e in absurd (omega arith))

    go : (o : Ordering) → slice_cmp nat_cmp x.user y.user ≡ o → Firstly x y → is_le (then_by o (nat_cmp (stamp y) (stamp x))) ≡ true
    go Less e q = refl
    go Equal e (inl s) = at (nat_cmp (stamp y) (stamp x)) refl s.1
    go Equal e (inr n) = absurd (n.0 (user_equal x.user y.user e))
    go Greater e (inl s) = absurd (user_greater x.user y.user e (subst (UserLe x.user) s.0 (user_le_refl x.user)))
    go Greater e (inr n) = absurd (user_greater x.user y.user e n.1)

-- y stands before x where x may not go first
pub not_first_says : (x y : Entry) → goes_first x y ≡ false → Before y x
unfolding goes_first
not_first_says x y h = before_from y x (go (slice_cmp nat_cmp x.user y.user) refl h)
  where
    at : (o : Ordering) → nat_cmp (stamp y) (stamp x) ≡ o → is_le o ≡ false → stamp x < stamp y
    at Less e t = absurd (cc t)
    at Equal e t = absurd (cc t)
    at Greater e t = rank_of (stamp y) (stamp x) Greater e

    go : (o : Ordering) → slice_cmp nat_cmp x.user y.user ≡ o → is_le (then_by o (nat_cmp (stamp y) (stamp x))) ≡ false → Precedes y x
    go Less e t = absurd (cc t)
    go Equal e t = inr (sym (user_equal x.user y.user e), at (nat_cmp (stamp y) (stamp x)) refl t)
    go Greater e t = inl (
      elim (user_le_total y.user x.user) [
        | inl le ↦ le
        | inr ge ↦ absurd (user_greater x.user y.user e ge)
      ],
      λ same. user_greater x.user y.user e (subst (λ (k : UserKey). UserLe k y.user) same (user_le_refl y.user)),
    )

pub before_first : (x y : Entry) → Before x y → goes_first x y ≡ true
unfolding goes_first
before_first x y h = ap is_le h

pub before_not_first : (x y : Entry) → Before x y → goes_first y x ≡ false
before_not_first x y bef = go (goes_first y x) refl
  where
    clash : Precedes x y → Firstly y x → ⊥
    clash (inl k) (inl s) = k.1 (sym s.0)
    clash (inl k) (inr n) = n.0 (user_le_antisym y.user x.user n.1 k.0)
    clash (inr s) (inl t) = (let lt = s.1 in let le = t.1 in absurd (omega arith))
    clash (inr s) (inr n) = n.0 (sym s.0)

    go : (b : Bool) → goes_first y x ≡ b → b ≡ false
    go false e = refl
    go true e = absurd (clash (before_says x y bef) (first_says y x e))

pub first_trans : (x y z : Entry) → goes_first x y ≡ true → goes_first y z ≡ true → goes_first x z ≡ true
first_trans x y z h k = first_from x z (go (first_says x y h) (first_says y z k))
  where
    go : Firstly x y → Firstly y z → Firstly x z
    go (inl s) (inl t) = inl (s.0 ∙ t.0, (let a = s.1 in let b = t.1 in omega arith))
    go (inl s) (inr n) = inr (λ same. n.0 (sym s.0 ∙ same), subst (λ (k : UserKey). UserLe k z.user) (sym s.0) n.1)
    go (inr n) (inl t) = inr (λ same. n.0 (same ∙ sym t.0), subst (UserLe x.user) t.0 n.1)
    go (inr m) (inr n) = inr (λ same. m.0 (user_le_antisym x.user y.user m.1 (subst (UserLe y.user) (sym same) n.1)), user_le_trans x.user y.user z.user m.1 n.1)

-- where x may not go before y, y may go before x
pub first_total : (x y : Entry) → goes_first x y ≡ false → goes_first y x ≡ true
first_total x y h = before_first y x (not_first_says x y h)

pub true_or_not : (b : Bool) → (b ≡ true → ⊥) → b ≡ false
true_or_not true h = absurd (h refl)
true_or_not false h = refl
