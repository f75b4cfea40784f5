-- A merge of sorted lists that does not ascend has an internal key twice, and so have the lists.
use Rattle.std.proofs.Common.{◌≡◌, ℕ, ◌≤◌, Bool, true, false, cond, List, [], ◌∷◌, ◌++◌, length, Ordering, Less, Equal, Greater, refl, sym, ◌∙◌, ap, subst, inl, inr, arith}
use Rattle.std.specs.Prelude.{◌⊎◌, ◌&&◌}
use Rattle.std.specs.List.{flat_map, filter}
use Rattle.std.specs.Ordering.{is_le, ordering_reverse, nat_cmp}
use Rattle.std.specs.Cmp.Lexicographic.{slice_cmp}
use Rattle.std.proofs.lemmas.Bool.{and_parts}
use Rattle.std.proofs.lemmas.List.Elements.{filter-append}
use Rattle.lsm_codec.specs.Lists.{Has}
use Rattle.lsm_codec.specs.Entries.{Entry, entry_cmp, internal_key, stamp}
use Rattle.lsm_codec.specs.Keys.{UserKey, UserLe, then_by}
use Rattle.lsm_codec.proofs.CallerLemmas.{key_cmp-swapped, user_le_antisym}
use Rattle.lsm_model.specs.Files.{Before}
use Rattle.lsm_model.specs.Merging.{AreOrdered, IsOrdered, IsSorted, Placed, entries_of, goes_first, is_alike, merge_all}
use Rattle.lsm_model.specs.Streams.{IsAscending}
use Rattle.lsm_model.proofs.CallerLemmas.{before_not_first, entry_placed, first_says, first_trans, placed_entry}
use Rattle.lsm_merge.specs.InputOrder.{AreTwins, HasTwins}

-- each of two may be handed out before the other one only where they are twins
twins_of : (x y : Entry) → goes_first x y ≡ true → goes_first y x ≡ true → AreTwins x y
twins_of x y h k = go (first_says x y h) (first_says y x k)
  where
    go : ((x.user ≡ y.user) × (stamp y ≤ stamp x)) ⊎ ((x.user ≡ y.user → ⊥) × UserLe x.user y.user)
        → ((y.user ≡ x.user) × (stamp x ≤ stamp y)) ⊎ ((y.user ≡ x.user → ⊥) × UserLe y.user x.user) → AreTwins x y
    go (inl a) (inl b) = (a.0, (let p = a.1 in let q = b.1 in omega arith))
    go (inl a) (inr b) = absurd (b.0 (sym a.0))
    go (inr a) (inl b) = absurd (a.0 (sym b.0))
    go (inr a) (inr b) = absurd (a.0 (user_le_antisym x.user y.user a.1 b.1))

-- where y may not go before x, x stands before y
before_of : (x y : Entry) → goes_first y x ≡ false → Before x y
unfolding goes_first
before_of x y h = go (entry_cmp y x) refl h
  where
    go : (o : Ordering) → entry_cmp y x ≡ o → is_le o ≡ false → Before x y
    go Less e t = absurd (cc t)
    go Equal e t = absurd (cc t)
    go Greater e t = key_cmp-swapped (internal_key x) (internal_key y) ∙ ap ordering_reverse e

-- an entry of this internal key
abbrev HasAlike : Entry → List Placed → Type 0
HasAlike e ps = (q : Placed) × Has ps q × (is_alike e q ≡ true)

-- x stands before all that may not go before it
find : (x : Placed) (ps : List Placed) → ((y : Entry) → Has (entries_of ps) y → goes_first x.1 y ≡ true) → ((y : Entry) → Has (entries_of ps) y → Before x.1 y) ⊎ HasAlike x.1 ps
find x [] s = inl (λ y h. absurd h)
find x (p ∷ ps) s = go (goes_first p.1 x.1) refl (find x ps (λ y h. s y (inr h)))
  where
    alike : (a b : Bool) → a ≡ true → b ≡ true → (a && b) ≡ true
    alike a b ea eb = cc

    go : (b : Bool) → goes_first p.1 x.1 ≡ b → ((y : Entry) → Has (entries_of ps) y → Before x.1 y) ⊎ HasAlike x.1 ps
        → ((y : Entry) → Has (entries_of (p ∷ ps)) y → Before x.1 y) ⊎ HasAlike x.1 (p ∷ ps)
    go true e rest = inr (p, inl refl, alike (goes_first x.1 p.1) (goes_first p.1 x.1) (s p.1 (inl refl)) e)
    go false e (inl all) = inl (λ y h. elim h [ inl same ↦ subst (Before x.1) same (before_of x.1 p.1 e) | inr k ↦ all y k ])
    go false e (inr r) = inr (r.0, inr r.1, r.2)

-- the entries of one internal key are two or more
abbrev IsTwice : Entry → List Placed → Type 0
IsTwice e ps = 2 ≤ length (filter (is_alike e) ps)

there_one : (e : Entry) (ps : List Placed) → HasAlike e ps → 1 ≤ length (filter (is_alike e) ps)
there_one e [] r = absurd r.1
there_one e (p ∷ ps) r = go (is_alike e p) refl r.1 (λ h. there_one e ps (r.0, h, r.2))
  where
    go : (b : Bool) → is_alike e p ≡ b → Has (p ∷ ps) r.0 → (Has ps r.0 → 1 ≤ length (filter (is_alike e) ps)) → 1 ≤ length (cond b (p ∷ filter (is_alike e) ps) (filter (is_alike e) ps))
    go true t h rest = omega arith
    go false t (inl same) rest = absurd (let k = subst (λ (q : Placed). is_alike e q ≡ true) (sym same) r.2 in cc (t, k))
    go false t (inr h) rest = rest h

one_there : (e : Entry) (ps : List Placed) → 1 ≤ length (filter (is_alike e) ps) → HasAlike e ps
one_there e [] h = absurd (omega arith)
one_there e (p ∷ ps) h = go (is_alike e p) refl h (one_there e ps)
  where
    go : (b : Bool) → is_alike e p ≡ b → 1 ≤ length (cond b (p ∷ filter (is_alike e) ps) (filter (is_alike e) ps)) → (1 ≤ length (filter (is_alike e) ps) → HasAlike e ps) → HasAlike e (p ∷ ps)
    go true t k rest = (p, inl refl, t)
    go false t k rest = (let r = rest k in (r.0, inr r.1, r.2))

alike_self : (x : Entry) → goes_first x x ≡ true
unfolding goes_first
alike_self x = go (entry_cmp x x) refl
  where
    go : (o : Ordering) → entry_cmp x x ≡ o → is_le o ≡ true
    go Less e = refl
    go Equal e = refl
    go Greater e = absurd (let k = key_cmp-swapped (internal_key x) (internal_key x) ∙ ap ordering_reverse e in cc (k, e))

-- what is sorted and does not ascend has an internal key twice
pub twice_of : (ps : List Placed) → IsSorted (entries_of ps) → (IsAscending (entries_of ps) → ⊥) → (e : Entry) × IsTwice e ps
twice_of [] s n = absurd (n tt)
twice_of (p ∷ ps) s n = go (find p ps s.0) (λ all. twice_of ps s.1 (λ a. n (all, a)))
  where
    more : (e : Entry) (b : Bool) → IsTwice e ps → 2 ≤ length (cond b (p ∷ filter (is_alike e) ps) (filter (is_alike e) ps))
    more e true h = omega arith
    more e false h = h

    own : (b : Bool) → b ≡ true → 1 ≤ length (filter (is_alike p.1) ps) → 2 ≤ length (cond b (p ∷ filter (is_alike p.1) ps) (filter (is_alike p.1) ps))
    own true t h = omega arith
    own false t h = absurd (cc t)

    both : (b : Bool) → b ≡ true → (b && b) ≡ true
    both b e = cc

    go : ((y : Entry) → Has (entries_of ps) y → Before p.1 y) ⊎ HasAlike p.1 ps → (((y : Entry) → Has (entries_of ps) y → Before p.1 y) → (e : Entry) × IsTwice e ps)
        → (e : Entry) × IsTwice e (p ∷ ps)
    go (inl all) rest = (let r = rest all in (r.0, more r.0 (is_alike r.0 p) r.1))
    go (inr there) rest = (p.1, own (is_alike p.1 p) (both (goes_first p.1 p.1) (alike_self p.1)) (there_one p.1 ps there))

pub twins_of_twice : (e : Entry) (ps : List Placed) → IsTwice e ps → HasTwins (entries_of ps)
twins_of_twice e [] h = absurd (omega arith)
twins_of_twice e (p ∷ ps) h = go (is_alike e p) refl h (twins_of_twice e ps)
  where
    pair : is_alike e p ≡ true → (q : Placed) → is_alike e q ≡ true → AreTwins p.1 q.1
    pair t q u =
        let a = and_parts (goes_first e p.1) (goes_first p.1 e) t in
        let b = and_parts (goes_first e q.1) (goes_first q.1 e) u in
        twins_of p.1 q.1 (first_trans p.1 e q.1 a.1 b.0) (first_trans q.1 e p.1 b.1 a.0)

    go : (b : Bool) → is_alike e p ≡ b → 2 ≤ length (cond b (p ∷ filter (is_alike e) ps) (filter (is_alike e) ps)) → (IsTwice e ps → HasTwins (entries_of ps))
        → HasTwins (entries_of (p ∷ ps))
    go true t k rest = (let r = one_there e ps (omega arith) in inl ((r.0).1, placed_entry ps r.0 r.1, pair t r.0 r.2))
    go false t k rest = inr (rest k)

-- the law of merges: what is alike in the lists is so in the merge, as often
abbrev pub KeepsAlike : Type 0
KeepsAlike = (e : Entry) (ls : List (List Placed)) → AreOrdered ls → filter (is_alike e) (merge_all ls) ≡ flat_map (filter (is_alike e)) ls

flat_filter : (e : Entry) (ls : List (List Placed)) → flat_map (filter (is_alike e)) ls ≡ filter (is_alike e) (flat_map (λ (l : List Placed). l) ls)
flat_filter e [] = refl
flat_filter e (l ∷ ls) = ap (λ (ps : List Placed). filter (is_alike e) l ++ ps) (flat_filter e ls) ∙ sym (filter-append (is_alike e) l (flat_map (λ (m : List Placed). m) ls))

-- a merge of ordered lists that does not ascend: the lists have an internal key twice
pub lists_have_twins : KeepsAlike → (ls : List (List Placed)) → AreOrdered ls → IsSorted (entries_of (merge_all ls)) → (IsAscending (entries_of (merge_all ls)) → ⊥)
    → HasTwins (entries_of (flat_map (λ l. l) ls))
lists_have_twins law ls o s n =
    let r = twice_of (merge_all ls) s n in
    twins_of_twice r.0 (flat_map (λ (l : List Placed). l) ls)
    (subst (λ (ps : List Placed). 2 ≤ length ps) (law r.0 ls o ∙ flat_filter r.0 ls) r.1)

-- one ordered list more
pub ordered_more : (ls : List (List Placed)) (l : List Placed) → AreOrdered ls → IsOrdered l → AreOrdered (ls ++ l ∷ [])
ordered_more [] l a o = (o, tt)
ordered_more (k ∷ ls) l a o = (a.0, ordered_more ls l a.1 o)

-- ---- and what ascends has none twice

twins_first : (x y : Entry) → AreTwins x y → goes_first x y ≡ true
unfolding goes_first
twins_first x y t =
    subst (λ (s : ℕ). is_le (then_by (slice_cmp nat_cmp x.user y.user) (nat_cmp s (stamp x))) ≡ true) t.1
    (subst (λ (u : UserKey). is_le (then_by (slice_cmp nat_cmp x.user u) (nat_cmp (stamp x) (stamp x))) ≡ true) t.0 (alike_self x))

one_more : (p : Placed) (e : Entry) (ps : List Placed) (b : Bool) → IsTwice e ps → 2 ≤ length (cond b (p ∷ filter (is_alike e) ps) (filter (is_alike e) ps))
one_more p e ps true h = omega arith
one_more p e ps false h = h

own_more : (p : Placed) (ps : List Placed) (b : Bool) → b ≡ true → 1 ≤ length (filter (is_alike p.1) ps) → 2 ≤ length (cond b (p ∷ filter (is_alike p.1) ps) (filter (is_alike p.1) ps))
own_more p ps true t h = omega arith
own_more p ps false t h = absurd (cc t)

both_true : (a b : Bool) → a ≡ true → b ≡ true → (a && b) ≡ true
both_true a b ea eb = cc

twice_of_twins : (ps : List Placed) → HasTwins (entries_of ps) → (e : Entry) × IsTwice e ps
twice_of_twins [] h = absurd h
twice_of_twins (p ∷ ps) (inl r) =
    let q = entry_placed ps r.0 r.1 in
    let t : AreTwins p.1 (q.0).1 = subst (AreTwins p.1) (sym q.2) r.2 in (
      p.1,
      own_more p ps (is_alike p.1 p) (both_true (goes_first p.1 p.1) (goes_first p.1 p.1) (alike_self p.1) (alike_self p.1))
          (there_one p.1 ps (q.0, q.1, both_true (goes_first p.1 (q.0).1) (goes_first (q.0).1 p.1) (twins_first p.1 (q.0).1 t) (twins_first (q.0).1 p.1 (sym t.0, sym t.1)))),
    )
twice_of_twins (p ∷ ps) (inr h) = (let r = twice_of_twins ps h in (r.0, one_more p r.0 ps (is_alike r.0 p) r.1))

ascends_once : (es : List Entry) → IsAscending es → HasTwins es → ⊥
ascends_once [] a h = h
ascends_once (x ∷ xs) a (inl r) = absurd (let late = before_not_first x r.0 (a.0 r.0 r.1) in let soon = twins_first r.0 x (sym (r.2).0, sym (r.2).1) in cc (late, soon))
ascends_once (x ∷ xs) a (inr h) = ascends_once xs a.1 h

-- a merge of ordered lists that ascends: the lists have no internal key twice
pub lists_have_no_twins : KeepsAlike → (ls : List (List Placed)) → AreOrdered ls → IsAscending (entries_of (merge_all ls)) → HasTwins (entries_of (flat_map (λ l. l) ls)) → ⊥
lists_have_no_twins law ls o a h =
    let r = twice_of_twins (flat_map (λ (l : List Placed). l) ls) h in
    ascends_once (entries_of (merge_all ls)) a
    (twins_of_twice r.0 (merge_all ls) (subst (λ (ps : List Placed). 2 ≤ length ps) (sym (law r.0 ls o ∙ flat_filter r.0 ls)) r.1))
