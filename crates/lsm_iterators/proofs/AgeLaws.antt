-- Judging each entry of a list in order against the next one finds the least key against age.
use Rattle.std.proofs.Common.{cond, Option, Some, None, ◌≡◌, ◌≤◌, ◌<◌, Bool, true, false, List, [], ◌∷◌, refl, sym, ◌∙◌, ap, subst, inl, inr, arith}
use Rattle.std.specs.Prelude.{◌⊎◌, ◌||◌, ◌&&◌, not, nat_le, nat_lt}
use Rattle.std.specs.Str.{bytes_eq}
use Rattle.std.proofs.lemmas.Bool.{and_parts, leb-true, leb-false, ltb-true, ltb-false}
use Rattle.lsm_codec.specs.Entries.{Entry}
use Rattle.lsm_codec.specs.Keys.{UserKey, UserLe}
use Rattle.lsm_codec.specs.Lists.{Has}
use Rattle.lsm_codec.proofs.CallerLemmas.{key_from_test, test_from_key, user_le_total, user_le_antisym, user_le_refl, seq_le}
use Rattle.lsm_model.specs.Ages.{is_aged, against_age, IsAgeOrder, IsAgainstAge, IsLeastAgainstAge}
use Rattle.lsm_model.specs.Merging.{Placed, IsOrdered, goes_first}
use Rattle.lsm_model.proofs.CallerLemmas.{first_says}

-- q stands behind p: no shallower, and older where deeper
pub record IsAged (p q : Placed) : Type 0 where
  pub depth : p.0 ≤ q.0
  pub age : p.0 < q.0 → q.1.seq < p.1.seq

aged_says : (p q : Placed) → is_aged p q ≡ true → p.1.user ≡ q.1.user → IsAged p q
aged_says p q h same = go (bytes_eq p.1.user q.1.user) (test_from_key p.1.user q.1.user same) h
  where
    older : (b : Bool) → nat_lt p.0 q.0 ≡ b → (not b || nat_lt q.1.seq p.1.seq) ≡ true → p.0 < q.0 → q.1.seq < p.1.seq
    older true e t lt = ltb-true q.1.seq p.1.seq t
    older false e t lt = (let ge = ltb-false p.0 q.0 e in absurd (omega arith))

    go : (b : Bool) → b ≡ true → (not b || (nat_le p.0 q.0 && (not (nat_lt p.0 q.0) || nat_lt q.1.seq p.1.seq))) ≡ true → IsAged p q
    go false e t = absurd (cc e)
    go true e t =
        let parts = and_parts (nat_le p.0 q.0) (not (nat_lt p.0 q.0) || nat_lt q.1.seq p.1.seq) t in
        record { depth = leb-true p.0 q.0 parts.0; age = older (nat_lt p.0 q.0) refl parts.1 }

aged_trans : (p q r : Placed) → IsAged p q → IsAged q r → q.1.seq ≤ p.1.seq → r.1.seq ≤ q.1.seq → IsAged p r
aged_trans p q r a b le le' = record {
  depth = (let x = a.depth in let y = b.depth in omega arith);
  age = λ lt. go (nat_lt p.0 q.0) refl lt;
}
  where
    go : (t : Bool) → nat_lt p.0 q.0 ≡ t → p.0 < r.0 → r.1.seq < p.1.seq
    go true e lt = (let x = a.age (ltb-true p.0 q.0 e) in omega arith)
    go false e lt = (let ge = ltb-false p.0 q.0 e in let y = b.age (omega arith) in omega arith)

key_up : (x y : Entry) → goes_first x y ≡ true → UserLe x.user y.user
key_up x y h = elim (first_says x y h) [ inl s ↦ subst (UserLe x.user) s.0 (user_le_refl x.user) | inr n ↦ n.1 ]

seq_down : (x y : Entry) → goes_first x y ≡ true → x.user ≡ y.user → y.seq ≤ x.seq
seq_down x y h same = elim (first_says x y h) [ inl s ↦ seq_le y x s.1 | inr n ↦ absurd (n.0 same) ]

-- what a list with nothing against age, or with a key against it first, says of its front
rest_none : (p q : Placed) (ps : List Placed) → against_age (Some p) (q ∷ ps) ≡ None → (is_aged p q ≡ true) × (against_age (Some q) ps ≡ None)
rest_none p q ps e = go (is_aged p q) refl e
  where
    go : (b : Bool) → is_aged p q ≡ b → cond b (against_age (Some q) ps) (Some q.1.user) ≡ None → (is_aged p q ≡ true) × (against_age (Some q) ps ≡ None)
    go true t e = (t, e)
    go false t e = absurd (cc e)

rest_some : (p q : Placed) (ps : List Placed) (k : UserKey) → against_age (Some p) (q ∷ ps) ≡ Some k
    → ((is_aged p q ≡ true) × (against_age (Some q) ps ≡ Some k)) ⊎ ((is_aged p q ≡ false) × (q.1.user ≡ k))
rest_some p q ps k e = go (is_aged p q) refl e
  where
    go : (b : Bool) → is_aged p q ≡ b → cond b (against_age (Some q) ps) (Some q.1.user) ≡ Some k
        → ((is_aged p q ≡ true) × (against_age (Some q) ps ≡ Some k)) ⊎ ((is_aged p q ≡ false) × (q.1.user ≡ k))
    go true t e = inl (t, e)
    go false t e = inr (t, cc e)

-- two entries that are not aged are of one user key, and against age one way or the other
not_aged : (p q : Placed) → is_aged p q ≡ false → goes_first p.1 q.1 ≡ true
    → (p.1.user ≡ q.1.user) × (((q.0 < p.0) × (q.1.seq ≤ p.1.seq)) ⊎ ((p.0 < q.0) × (p.1.seq ≤ q.1.seq)))
not_aged p q h first = go (bytes_eq p.1.user q.1.user) refl h
  where
    deep : (b c : Bool) → nat_lt p.0 q.0 ≡ b → nat_lt q.1.seq p.1.seq ≡ c → (not b || c) ≡ false → (p.0 < q.0) × (p.1.seq ≤ q.1.seq)
    deep true true e f t = absurd (cc t)
    deep true false e f t = (ltb-true p.0 q.0 e, ltb-false q.1.seq p.1.seq f)
    deep false c e f t = absurd (cc t)

    at : p.1.user ≡ q.1.user → (a : Bool) → nat_le p.0 q.0 ≡ a → (a && (not (nat_lt p.0 q.0) || nat_lt q.1.seq p.1.seq)) ≡ false
        → ((q.0 < p.0) × (q.1.seq ≤ p.1.seq)) ⊎ ((p.0 < q.0) × (p.1.seq ≤ q.1.seq))
    at same true e t = inr (deep (nat_lt p.0 q.0) (nat_lt q.1.seq p.1.seq) refl refl t)
    at same false e t = inl (leb-false p.0 q.0 e, seq_down p.1 q.1 first same)

    go : (b : Bool) → bytes_eq p.1.user q.1.user ≡ b → (not b || (nat_le p.0 q.0 && (not (nat_lt p.0 q.0) || nat_lt q.1.seq p.1.seq))) ≡ false
        → (p.1.user ≡ q.1.user) × (((q.0 < p.0) × (q.1.seq ≤ p.1.seq)) ⊎ ((p.0 < q.0) × (p.1.seq ≤ q.1.seq)))
    go true e t = (key_from_test p.1.user q.1.user e, at (key_from_test p.1.user q.1.user e) (nat_le p.0 q.0) refl t)
    go false e t = absurd (cc t)

-- up to what is found, each entry is aged against every later one of its user key
abbrev IsBefore : Option UserKey → UserKey → Type 0
IsBefore None user = Unit {0}
IsBefore (Some k) user = user ≡ k → ⊥

all_aged : (found : Option UserKey) (p : Placed) (ps : List Placed) → IsOrdered (p ∷ ps) → against_age (Some p) ps ≡ found → IsBefore found p.1.user
    → (q : Placed) → Has ps q → p.1.user ≡ q.1.user → IsAged p q
all_aged found p [] o t n q h same = absurd h
all_aged found p (r ∷ ps) o t n q h same = go (λ w e b k s. all_aged w r ps o.1 e b q k s) found t n h
  where
    pr : goes_first p.1 r.1 ≡ true
    pr = o.0 r (inl refl)

    -- the entry next to p is of its user key, where a later one is
    near : Has ps q → p.1.user ≡ r.1.user
    near k = user_le_antisym p.1.user r.1.user (key_up p.1 r.1 pr) (subst (UserLe r.1.user) (sym same) (key_up r.1 q.1 (o.1.0 q k)))

    far : ((w : Option UserKey) → against_age (Some r) ps ≡ w → IsBefore w r.1.user → Has ps q → r.1.user ≡ q.1.user → IsAged r q) → is_aged p r ≡ true → (w : Option UserKey) → against_age (Some r) ps ≡ w → IsBefore w p.1.user → Has ps q → IsAged p q
    far rec a w e b k =
        let mid : p.1.user ≡ r.1.user = near k in
        let on : r.1.user ≡ q.1.user = sym mid ∙ same in
        aged_trans p r q (aged_says p r a mid) (rec w e (subst (IsBefore w) mid b) k on) (seq_down p.1 r.1 pr mid) (seq_down r.1 q.1 (o.1.0 q k) on)

    here : is_aged p r ≡ true → r ≡ q → IsAged p q
    here a e = subst (IsAged p) e (aged_says p r a (same ∙ ap (λ (w : Placed). w.1.user) (sym e)))

    go : ((w : Option UserKey) → against_age (Some r) ps ≡ w → IsBefore w r.1.user → Has ps q → r.1.user ≡ q.1.user → IsAged r q) → (w : Option UserKey) → against_age (Some p) (r ∷ ps) ≡ w → IsBefore w p.1.user → Has (r ∷ ps) q → IsAged p q
    go rec None e b (inl k) = here (rest_none p r ps e).0 k
    go rec None e b (inr k) = (let s = rest_none p r ps e in far rec s.0 None s.1 tt k)
    go rec (Some f) e b k = elim (rest_some p r ps f e) [
      | inl s ↦ elim k [ inl u ↦ here s.0 u | inr u ↦ far rec s.0 (Some f) s.1 b u ]
      | inr s ↦ absurd (b ((not_aged p r s.0 pr).0 ∙ s.1))
    ]

-- among the entries before what is found, in either direction
abbrev IsBelow : Option UserKey → UserKey → Type 0
IsBelow None user = Unit {0}
IsBelow (Some k) user = UserLe user k × (user ≡ k → ⊥)

before_below : (found : Option UserKey) (user : UserKey) → IsBelow found user → IsBefore found user
before_below None user b = tt
before_below (Some k) user b = b.1

age_below : (found : Option UserKey) (p : Placed) (ps : List Placed) → IsOrdered (p ∷ ps) → against_age (Some p) ps ≡ found → (x y : Placed) → Has (p ∷ ps) x → Has (p ∷ ps) y
    → x.1.user ≡ y.1.user → IsBelow found x.1.user → x.0 < y.0 → y.1.seq < x.1.seq
age_below found p ps o t x y (inl e) (inl f) same b lt = (let z = ap (λ (w : Placed). w.0) (sym e ∙ f) in absurd (omega arith))
age_below found p ps o t x y (inl e) (inr h) same b lt =
    subst (λ (w : Placed). w.1.user ≡ y.1.user → IsBelow found w.1.user → w.0 < y.0 → y.1.seq < w.1.seq) e
    (λ s u l. (all_aged found p ps o t (before_below found p.1.user u) y h s).age l) same b lt
age_below found p ps o t x y (inr h) (inl f) same b lt =
    subst (λ (w : Placed). x.1.user ≡ w.1.user → x.0 < w.0 → w.1.seq < x.1.seq) f
    (λ s l. (let d = (all_aged found p ps o t (before_below found p.1.user (subst (IsBelow found) s b)) x h (sym s)).depth in absurd (omega arith))) same lt
age_below found p [] o t x y (inr h) (inr k) same b lt = absurd h
age_below found p (r ∷ ps) o t x y (inr h) (inr k) same b lt = go (λ w e u. age_below w r ps o.1 e x y h k same u lt) found t b
  where
    up : UserLe r.1.user x.1.user
    up = elim h [ inl e ↦ subst (λ (w : Placed). UserLe r.1.user w.1.user) e (user_le_refl r.1.user) | inr l ↦ key_up r.1 x.1 (o.1.0 x l) ]

    go : ((w : Option UserKey) → against_age (Some r) ps ≡ w → IsBelow w x.1.user → y.1.seq < x.1.seq)
        → (w : Option UserKey) → against_age (Some p) (r ∷ ps) ≡ w → IsBelow w x.1.user → y.1.seq < x.1.seq
    go rec None e u = rec None (rest_none p r ps e).1 tt
    go rec (Some f) e u = elim (rest_some p r ps f e) [
      | inl s ↦ rec (Some f) s.1 u
      | inr s ↦ absurd (u.1 (user_le_antisym x.1.user f u.0 (subst (λ (w : UserKey). UserLe w x.1.user) s.1 up)))
    ]

-- what is found is against age
found_here : (p : Placed) (ps : List Placed) (k : UserKey) → IsOrdered (p ∷ ps) → against_age (Some p) ps ≡ Some k → IsAgainstAge (p ∷ ps) k
found_here p [] k o e = absurd (cc e)
found_here p (q ∷ ps) k o e = elim (rest_some p q ps k e) [
  | inl s ↦ (let r = found_here q ps k o.1 s.1 in (r.0, r.1, inr r.2, inr r.3, r.4, r.5, r.6, r.7))
  | inr s ↦ (let n = not_aged p q s.0 (o.0 q (inl refl)) in elim n.1 [
    | inl up ↦ (q, p, inr (inl refl), inl refl, s.1, n.0 ∙ s.1, up.0, up.1)
    | inr down ↦ (p, q, inl refl, inr (inl refl), n.0 ∙ s.1, s.1, down.0, down.1)
  ])
]

abbrev pub IsFound : List Placed → Option UserKey → Type 0
IsFound ps None = IsAgeOrder ps
IsFound ps (Some k) = IsLeastAgainstAge ps k

-- the judgment along a list in order finds the least key against age
pub finds_age : (ps : List Placed) (found : Option UserKey) → IsOrdered ps → against_age None ps ≡ found → IsFound ps found
finds_age [] None o e = λ p q hp hq same lt. absurd hp
finds_age [] (Some k) o e = absurd (cc e)
finds_age (p ∷ ps) None o e = λ x y hx hy same lt. age_below None p ps o e x y hx hy same tt lt
finds_age (p ∷ ps) (Some k) o e = record {
  here = found_here p ps k o e;
  least = λ other a. elim (user_le_total k other) [
    | inl le ↦ le
    | inr ge ↦ least other a ge (bytes_eq other k) refl
  ];
}
  where
    least : (other : UserKey) → IsAgainstAge (p ∷ ps) other → UserLe other k → (b : Bool) → bytes_eq other k ≡ b → UserLe k other
    least other a ge true t = subst (UserLe k) (sym (key_from_test other k t)) (user_le_refl k)
    least other a ge false t =
        let ne : other ≡ k → ⊥ = λ same. absurd (cc (t, test_from_key other k same)) in
        let below : IsBelow (Some k) (a.0).1.user = subst (IsBelow (Some k)) (sym a.4) (ge, ne) in
        let lt : (a.1).1.seq < (a.0).1.seq = age_below (Some k) p ps o e a.0 a.1 a.2 a.3 (a.4 ∙ sym a.5) below a.6 in
        let le = a.7 in absurd (omega arith)
