-- Judging each range of a level against the next one judges all pairs.
use Rattle.std.proofs.Common.{◌≡◌, Bool, true, false, cond, List, [], ◌∷◌, refl, sym, subst, inl, inr}
use Rattle.std.specs.Prelude.{◌⊎◌}
use Rattle.lsm_codec.specs.Lists.{Has}
use Rattle.lsm_codec.specs.Keys.{InternalKey, UserLe, user_le}
use Rattle.lsm_codec.specs.Entries.{Entry}
use Rattle.lsm_codec.proofs.CallerLemmas.{user_le_trans, user_le_total, user_le_refl}
use Rattle.lsm_model.specs.Merging.{goes_first}
use Rattle.lsm_model.specs.Ranges.{Range, KeyLe, key_le, MeetInKeys, ShareUsers, EachPair, SomePair, IsLevel, IsLaidOut, next_layout, worse, layout_along}
use Rattle.lsm_model.specs.declared.key_range.Layout.{Layout}
use Rattle.lsm_model.specs.declared.key_range.Layout.TheVariants.{Overlap, Shared, Apart}
use Rattle.lsm_model.proofs.Order.{first_says, first_trans, first_total}

-- a key as an entry without a value
abbrev entry_at : InternalKey → Entry
entry_at key = record { user = key.user; seq = key.seq; kind = key.kind; value = [] }

first_of_le : (a b : InternalKey) → KeyLe a b → goes_first (entry_at a) (entry_at b) ≡ true
unfolding key_le goes_first
first_of_le a b h = h

le_of_first : (a b : InternalKey) → goes_first (entry_at a) (entry_at b) ≡ true → KeyLe a b
unfolding key_le goes_first
le_of_first a b h = h

pub key_le_trans : (a b c : InternalKey) → KeyLe a b → KeyLe b c → KeyLe a c
key_le_trans a b c h k = le_of_first a c (first_trans (entry_at a) (entry_at b) (entry_at c) (first_of_le a b h) (first_of_le b c k))

pub key_le_total : (a b : InternalKey) → KeyLe a b ⊎ KeyLe b a
key_le_total a b = go (goes_first (entry_at a) (entry_at b)) refl
  where
    go : (t : Bool) → goes_first (entry_at a) (entry_at b) ≡ t → KeyLe a b ⊎ KeyLe b a
    go true e = inl (le_of_first a b e)
    go false e = inr (le_of_first b a (first_total (entry_at a) (entry_at b) e))

pub key_le_user : (a b : InternalKey) → KeyLe a b → UserLe a.user b.user
key_le_user a b h = elim (first_says (entry_at a) (entry_at b) (first_of_le a b h)) [ inl s ↦ subst (UserLe a.user) s.0 (user_le_refl a.user) | inr n ↦ n.1 ]

-- along the list each layout is at worst this one
abbrev pub NoWorse : Layout → Layout → Type 0
NoWorse Overlap m = Unit {0}
NoWorse Shared Overlap = ⊥
NoWorse Shared Shared = Unit {0}
NoWorse Shared Apart = Unit {0}
NoWorse Apart Overlap = ⊥
NoWorse Apart Shared = ⊥
NoWorse Apart Apart = Unit {0}

worse_left : (l m n : Layout) → NoWorse n (worse l m) → NoWorse n l
worse_left Overlap m n h = h
worse_left Shared Overlap Overlap h = tt
worse_left Shared Overlap Shared h = absurd h
worse_left Shared Overlap Apart h = absurd h
worse_left Shared Shared n h = h
worse_left Shared Apart n h = h
worse_left Apart m Overlap h = tt
worse_left Apart m Shared h = tt
worse_left Apart m Apart h = tt

worse_right : (l m n : Layout) → NoWorse n (worse l m) → NoWorse n m
worse_right Overlap m Overlap h = tt
worse_right Overlap m Shared h = absurd h
worse_right Overlap m Apart h = absurd h
worse_right Shared Overlap n h = h
worse_right Shared Shared n h = h
worse_right Shared Apart Overlap h = tt
worse_right Shared Apart Shared h = tt
worse_right Shared Apart Apart h = absurd h
worse_right Apart m n h = h

abbrev pub EachNext : (Range → Range → Type 0) → List Range → Type 0
EachNext P [] = Unit {0}
EachNext P (a ∷ []) = Unit {0}
EachNext P (a ∷ b ∷ rest) = P a b × EachNext P (b ∷ rest)

abbrev pub SomeNext : (Range → Range → Type 0) → List Range → Type 0
SomeNext P [] = ⊥
SomeNext P (a ∷ []) = ⊥
SomeNext P (a ∷ b ∷ rest) = P a b ⊎ SomeNext P (b ∷ rest)

no_worse : (l m : Layout) → l ≡ m → NoWorse m l
no_worse l Overlap e = tt
no_worse Shared Shared e = tt
no_worse Apart Apart e = tt
no_worse Overlap Shared e = absurd (cc e)
no_worse Overlap Apart e = absurd (cc e)
no_worse Shared Apart e = absurd (cc e)
no_worse Apart Shared e = absurd (cc e)

worse_is : (l k m : Layout) → worse l k ≡ m → (l ≡ m) ⊎ (k ≡ m)
worse_is Overlap k m e = inl e
worse_is Shared Overlap m e = inr e
worse_is Shared Shared m e = inl e
worse_is Shared Apart m e = inl e
worse_is Apart k m e = inr e

-- what the judgment of a list says of its neighbours
record IsAlong (layout m : Layout) (ranges : List Range) : Type 0 where
  start : NoWorse m layout
  each : EachNext (λ a b. NoWorse m (next_layout a b)) ranges
  some : (layout ≡ m) ⊎ SomeNext (λ a b. next_layout a b ≡ m) ranges

along : (ranges : List Range) (layout m : Layout) → layout_along layout ranges ≡ m → IsAlong layout m ranges
along [] layout m e = record { start = no_worse layout m e; each = tt; some = inl e }
along (a ∷ []) layout m e = record { start = no_worse layout m e; each = tt; some = inl e }
along (a ∷ b ∷ rest) layout m e =
    let r = along (b ∷ rest) (worse layout (next_layout a b)) m e in
    record {
      start = worse_left layout (next_layout a b) m r.start;
      each = (worse_right layout (next_layout a b) m r.start, r.each);
      some = elim r.some [
        | inl s ↦ elim (worse_is layout (next_layout a b) m s) [ inl l ↦ inl l | inr n ↦ inr (inl n) ]
        | inr t ↦ inr (inr t)
      ];
    }

keys_clear : (a b : Range) → NoWorse Shared (next_layout a b) → KeyLe b.smallest a.largest → ⊥
keys_clear a b h le = subst (λ (t : Bool). NoWorse Shared (cond t Overlap (cond (user_le b.smallest.user a.largest.user) Shared Apart))) le h

users_clear : (a b : Range) → NoWorse Apart (next_layout a b) → UserLe b.smallest.user a.largest.user → ⊥
users_clear a b h le = go (key_le b.smallest a.largest) (subst (λ (t : Bool). NoWorse Apart (cond (key_le b.smallest a.largest) Overlap (cond t Shared Apart))) le h)
  where
    go : (t : Bool) → NoWorse Apart (cond t Overlap Shared) → ⊥
    go true h = h
    go false h = h

is_overlap : (a b : Range) → next_layout a b ≡ Overlap → KeyLe b.smallest a.largest
is_overlap a b h = go (key_le b.smallest a.largest) refl (user_le b.smallest.user a.largest.user) h
  where
    go : (t : Bool) → key_le b.smallest a.largest ≡ t → (u : Bool) → cond t Overlap (cond u Shared Apart) ≡ Overlap → KeyLe b.smallest a.largest
    go true e u h = e
    go false e true h = absurd (cc h)
    go false e false h = absurd (cc h)

is_shared : (a b : Range) → next_layout a b ≡ Shared → UserLe b.smallest.user a.largest.user
is_shared a b h = go (key_le b.smallest a.largest) (user_le b.smallest.user a.largest.user) refl h
  where
    go : (t u : Bool) → user_le b.smallest.user a.largest.user ≡ u → cond t Overlap (cond u Shared Apart) ≡ Shared → UserLe b.smallest.user a.largest.user
    go true u e h = absurd (cc h)
    go false true e h = e
    go false false e h = absurd (cc h)

each_next : (P Q : Range → Range → Type 0) → ((a b : Range) → P a b → Q a b) → (ranges : List Range) → EachNext P ranges → EachNext Q ranges
each_next P Q f [] h = tt
each_next P Q f (a ∷ []) h = tt
each_next P Q f (a ∷ b ∷ rest) h = (f a b h.0, each_next P Q f (b ∷ rest) h.1)

-- an order in which the ranges are read
record IsReading {X : Type 0} (Le : X → X → Type 0) (low high : Range → X) : Type 0 where
  trans : (x y z : X) → Le x y → Le y z → Le x z
  total : (x y : X) → Le x y ⊎ Le y x

-- where each range ends before the next one begins, it ends before each later one begins
after_all : {X : Type 0} (Le : X → X → Type 0) (low high : Range → X) → IsReading Le low high → (a : Range) (rest : List Range)
    → ((b : Range) → Has (a ∷ rest) b → Le (low b) (high b)) → EachNext (λ b c. Le (low c) (high b) → ⊥) (a ∷ rest) → (b : Range) → Has rest b → Le (low b) (high a) → ⊥
after_all Le low high r a [] own next b h le = h
after_all Le low high r a (e ∷ rest) own next b (inl s) le = next.0 (subst (λ (x : Range). Le (low x) (high a)) (sym s) le)
after_all Le low high r a (e ∷ rest) own next b (inr h) le = elim (r.total (high e) (high a)) [
  | inl down ↦ next.0 (r.trans (low e) (high e) (high a) (own e (inr (inl refl))) down)
  | inr up ↦ after_all Le low high r e rest (λ x k. own x (inr k)) next.1 b h (r.trans (low b) (high a) (high e) le up)
]

each_after : {X : Type 0} (Le : X → X → Type 0) (low high : Range → X) → IsReading Le low high → (ranges : List Range)
    → ((b : Range) → Has ranges b → Le (low b) (high b)) → EachNext (λ b c. Le (low c) (high b) → ⊥) ranges → EachPair (λ a b. Le (low b) (high a) → ⊥) ranges
each_after Le low high r [] own next = tt
each_after Le low high r (a ∷ []) own next = (λ b h le. h, tt)
each_after Le low high r (a ∷ b ∷ rest) own next =
    (after_all Le low high r a (b ∷ rest) own next, each_after Le low high r (b ∷ rest) (λ x k. own x (inr k)) next.1)

each_pair : (P Q : Range → Range → Type 0) → ((a b : Range) → P a b → Q a b) → (ranges : List Range) → EachPair P ranges → EachPair Q ranges
each_pair P Q f [] h = tt
each_pair P Q f (a ∷ rest) h = (λ b k. f a b (h.0 b k), each_pair P Q f rest h.1)

-- neighbours are a pair, and the level's order holds of them
some_pair : (P Q : Range → Range → Type 0) (ranges : List Range) → IsLevel ranges
    → ((a b : Range) → KeyLe a.smallest b.smallest → KeyLe b.smallest b.largest → P a b → Q a b) → SomeNext P ranges → SomePair Q ranges
some_pair P Q [] l f h = absurd h
some_pair P Q (a ∷ []) l f h = absurd h
some_pair P Q (a ∷ b ∷ rest) l f (inl h) = inl (b, inl refl, f a b (l.order.0 b (inl refl)) (l.each b (inr (inl refl))) h)
some_pair P Q (a ∷ b ∷ rest) l f (inr h) = inr (some_pair P Q (b ∷ rest) record { each = λ x k. l.each x (inr k); order = l.order.1 } f h)

by_keys : IsReading KeyLe (λ r. r.smallest) (λ r. r.largest)
by_keys = record { trans = key_le_trans; total = key_le_total }

by_users : IsReading UserLe (λ r. r.smallest.user) (λ r. r.largest.user)
by_users = record { trans = user_le_trans; total = user_le_total }

pub laid_out : (ranges : List Range) (layout : Layout) → IsLevel ranges → layout_along Apart ranges ≡ layout → IsLaidOut ranges layout
laid_out ranges Overlap l e = some_pair (λ a b. next_layout a b ≡ Overlap) MeetInKeys ranges l
    (λ a b up own h. (key_le_trans a.smallest b.smallest b.largest up own, is_overlap a b h))
    (elim (along ranges Apart Overlap e).some [ inl w ↦ absurd (cc w) | inr s ↦ s ])
laid_out ranges Shared l e = (
  each_pair (λ a b. KeyLe b.smallest a.largest → ⊥) (λ a b. MeetInKeys a b → ⊥) (λ a b n m. n m.1) ranges
      (each_after KeyLe (λ r. r.smallest) (λ r. r.largest) by_keys ranges l.each
      (each_next (λ a b. NoWorse Shared (next_layout a b)) (λ a b. KeyLe b.smallest a.largest → ⊥) keys_clear ranges (along ranges Apart Shared e).each)),
  some_pair (λ a b. next_layout a b ≡ Shared) ShareUsers ranges l
      (λ a b up own h. (key_le_user a.smallest b.largest (key_le_trans a.smallest b.smallest b.largest up own), is_shared a b h))
      (elim (along ranges Apart Shared e).some [ inl w ↦ absurd (cc w) | inr s ↦ s ]),
)
laid_out ranges Apart l e =
    each_pair (λ a b. UserLe b.smallest.user a.largest.user → ⊥) (λ a b. ShareUsers a b → ⊥) (λ a b n m. n m.1) ranges
    (each_after UserLe (λ r. r.smallest.user) (λ r. r.largest.user) by_users ranges (λ a h. key_le_user a.smallest a.largest (l.each a h))
    (each_next (λ a b. NoWorse Apart (next_layout a b)) (λ a b. UserLe b.smallest.user a.largest.user → ⊥) users_clear ranges (along ranges Apart Apart e).each))
