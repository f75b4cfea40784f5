-- A scan of a sorted list shows the answers.
use Rattle.std.proofs.Common.{◌≡◌, ℕ, ◌≤◌, Bool, true, false, cond, List, [], ◌∷◌, Option, Some, None, refl, sym, ◌∙◌, ap, subst, inl, inr, arith}
use Rattle.std.specs.Prelude.{◌⊎◌, ◌||◌, ◌&&◌, not, nat_le, nat_lt}
use Rattle.std.specs.Str.{bytes_eq}
use Rattle.std.proofs.lemmas.Bool.{and_from, ltb-true}
use Rattle.lsm_codec.specs.declared.kind.Kind.{Kind}
use Rattle.lsm_codec.specs.declared.kind.Kind.TheVariants.{Deletion, Value}
use Rattle.lsm_codec.specs.Entries.{Entry, stamp, is_allowed, first_of_two, newest, value_in, shown, answer}
use Rattle.lsm_codec.specs.Keys.{UserKey, UserLe}
use Rattle.lsm_codec.specs.Lists.{Has}
use Rattle.lsm_codec.proofs.CallerLemmas.{key_from_test, test_from_key, user_le_antisym, user_le_refl, Finds, newest_finds}
use Rattle.lsm_model.specs.Merging.{goes_first, IsSorted}
use Rattle.lsm_model.specs.Scanning.{Pair, put_pair, is_answered, is_passed, pairs_of, UsersAscend, IsScan}
use Rattle.lsm_model.proofs.Order.{first_says}

-- the keys that are left are not below the one answered last
abbrev pub IsReached : Option UserKey → List Entry → Type 0
IsReached None es = Unit {0}
IsReached (Some k) es = (e : Entry) → Has es e → UserLe k e.user

abbrev pub IsOther : Option UserKey → UserKey → Type 0
IsOther None k = Unit {0}
IsOther (Some own) k = own ≡ k → ⊥

first_key : (x y : Entry) → goes_first x y ≡ true → UserLe x.user y.user
first_key x y h = elim (first_says x y h) [ inl s ↦ subst (UserLe x.user) s.0 (user_le_refl x.user) | inr n ↦ n.1 ]

first_stamp : (x y : Entry) → goes_first x y ≡ true → x.user ≡ y.user → stamp y ≤ stamp x
first_stamp x y h same = elim (first_says x y h) [ inl s ↦ s.1 | inr n ↦ absurd (n.0 same) ]

-- an entry of another key, or too new, changes no answer
other_answer : (e : Entry) (es : List Entry) (k : UserKey) (s : ℕ) → is_allowed k s e ≡ false → answer (e ∷ es) k s ≡ answer es k s
other_answer e es k s h = ap (λ (b : Bool). value_in (cond b (Some (first_of_two e (newest k s es))) (newest k s es))) h

not_key : (e : Entry) (k : UserKey) (s : ℕ) → (e.user ≡ k → ⊥) → is_allowed k s e ≡ false
not_key e k s ne = go (bytes_eq e.user k) refl
  where
    go : (b : Bool) → bytes_eq e.user k ≡ b → (b && nat_le e.seq s) ≡ false
    go true t = absurd (ne (key_from_test e.user k t))
    go false t = refl

not_seq : (e : Entry) (k : UserKey) (s : ℕ) → nat_le e.seq s ≡ false → is_allowed k s e ≡ false
not_seq e k s h = go (bytes_eq e.user k)
  where
    go : (b : Bool) → (b && nat_le e.seq s) ≡ false
    go true = h
    go false = refl

-- the first allowed entry of a key in a sorted list is its newest
first_newest : (e : Entry) (es : List Entry) (s : ℕ) → IsSorted (e ∷ es) → nat_le e.seq s ≡ true → newest e.user s (e ∷ es) ≡ Some e
first_newest e es s a h = subst (λ (b : Bool). cond b (Some (first_of_two e (newest e.user s es))) (newest e.user s es) ≡ Some e)
    (sym (and_from (bytes_eq e.user e.user) (nat_le e.seq s) (test_from_key e.user e.user refl) h))
    (ap (λ (x : Entry). Some x) (go (newest e.user s es) (newest_finds e.user s es)))
  where
    at : (f : Entry) → stamp f ≤ stamp e → (b : Bool) → nat_lt (stamp e) (stamp f) ≡ b → cond b f e ≡ e
    at f le true t = (let lt = ltb-true (stamp e) (stamp f) t in absurd (omega arith))
    at f le false t = refl

    go : (o : Option Entry) → Finds es e.user s o → first_of_two e o ≡ e
    go None n = refl
    go (Some f) n = at f (first_stamp e f (a.0 f n.here) (sym n.allowed.key)) (nat_lt (stamp e) (stamp f)) refl

-- an answer comes of an entry
answer_has : (es : List Entry) (k : UserKey) (s : ℕ) (v : List ℕ) → answer es k s ≡ Some v → (e : Entry) × Has es e × (e.user ≡ k)
answer_has es k s v h = go (newest k s es) (newest_finds k s es) h
  where
    go : (o : Option Entry) → Finds es k s o → value_in o ≡ Some v → (e : Entry) × Has es e × (e.user ≡ k)
    go None n t = absurd (cc t)
    go (Some f) n t = (f, n.here, n.allowed.key)

pub record IsShown (s : ℕ) (told : Option UserKey) (es : List Entry) (pairs : List Pair) : Type 0 where
  pub right : (k : UserKey) (v : List ℕ) → Has pairs (k, v) → IsOther told k × (answer es k s ≡ Some v)
  pub whole : (k : UserKey) (v : List ℕ) → IsOther told k → answer es k s ≡ Some v → Has pairs (k, v)
  pub ascending : UsersAscend pairs

-- an entry that is passed
shown_passed : (s : ℕ) (told : Option UserKey) (e : Entry) (es : List Entry) (pairs : List Pair) → is_passed s told e ≡ true → IsShown s told es pairs → IsShown s told (e ∷ es) pairs
shown_passed s told e es pairs t r = record {
  right = λ k v h. ((r.right k v h).0, other_answer e es k s (not_allowed k (r.right k v h).0) ∙ (r.right k v h).1);
  whole = λ k v o h. r.whole k v o (sym (other_answer e es k s (not_allowed k o)) ∙ h);
  ascending = r.ascending;
}
  where
    of_answered : (told : Option UserKey) (k : UserKey) → is_answered told e.user ≡ true → IsOther told k → e.user ≡ k → ⊥
    of_answered None k h o same = absurd (cc h)
    of_answered (Some own) k h o same = o (key_from_test own e.user h ∙ same)

    not_allowed : (k : UserKey) → IsOther told k → is_allowed k s e ≡ false
    not_allowed k o = go (is_answered told e.user) refl (nat_le e.seq s) refl t
      where
        go : (a : Bool) → is_answered told e.user ≡ a → (b : Bool) → nat_le e.seq s ≡ b → (a || not b) ≡ true → is_allowed k s e ≡ false
        go true u b w h = not_key e k s (of_answered told k u o)
        go false u true w h = absurd (cc h)
        go false u false w h = not_seq e k s w

-- an entry that answers its key
shown_answers : (s : ℕ) (told : Option UserKey) (e : Entry) (es : List Entry) (rest : List Pair) → IsSorted (e ∷ es) → IsReached told (e ∷ es) → is_passed s told e ≡ false
    → IsShown s (Some e.user) es rest → IsShown s told (e ∷ es) (put_pair e.kind (e.user, e.value) rest)
shown_answers s told e es rest a reach t r = go e.kind refl
  where
    parts : (is_answered told e.user ≡ false) × (nat_le e.seq s ≡ true)
    parts = split (is_answered told e.user) (nat_le e.seq s) t
      where
        split : (x y : Bool) → (x || not y) ≡ false → (x ≡ false) × (y ≡ true)
        split true y h = absurd (cc h)
        split false true h = (refl, refl)
        split false false h = absurd (cc h)

    own_answer : answer (e ∷ es) e.user s ≡ shown e.kind e.value
    own_answer = ap value_in (first_newest e es s a parts.1)

    later : (k : UserKey) → (e.user ≡ k → ⊥) → answer (e ∷ es) k s ≡ answer es k s
    later k ne = other_answer e es k s (not_key e k s ne)

    own_other : (told : Option UserKey) → is_answered told e.user ≡ false → IsOther told e.user
    own_other None h = tt
    own_other (Some own) h = λ same. absurd (cc (h, test_from_key own e.user same))

    -- a key of a later entry is not the one answered before e
    other : (told : Option UserKey) → IsReached told (e ∷ es) → is_answered told e.user ≡ false → (x : Entry) → Has es x → (e.user ≡ x.user → ⊥) → IsOther told x.user
    other None re h x at ne = tt
    other (Some own) re h x at ne = λ same. own_other (Some own) h (user_le_antisym own e.user (re e (inl refl)) (subst (UserLe e.user) (sym same) (first_key e x (a.0 x at))))

    other_done : (k : UserKey) (v : List ℕ) → answer es k s ≡ Some v → (e.user ≡ k → ⊥) → IsOther told k
    other_done k v h ne = (let w = answer_has es k s v h in subst (IsOther told) w.2 (other told reach parts.0 w.0 w.1 (λ same. ne (same ∙ w.2))))

    from_rest : (k : UserKey) (v : List ℕ) → Has rest (k, v) → IsOther told k × (answer (e ∷ es) k s ≡ Some v)
    from_rest k v h = (let p = r.right k v h in (other_done k v p.1 p.0, later k p.0 ∙ p.1))

    same_or_not : (k : UserKey) → (e.user ≡ k) ⊎ (e.user ≡ k → ⊥)
    same_or_not k = test (bytes_eq e.user k) refl
      where
        test : (b : Bool) → bytes_eq e.user k ≡ b → (e.user ≡ k) ⊎ (e.user ≡ k → ⊥)
        test true u = inl (key_from_test e.user k u)
        test false u = inr (λ same. absurd (cc (u, test_from_key e.user k same)))

    go : (b : Kind) → e.kind ≡ b → IsShown s told (e ∷ es) (put_pair b (e.user, e.value) rest)
    go Value u =
        let mine : answer (e ∷ es) e.user s ≡ Some e.value = own_answer ∙ ap (λ (x : Kind). shown x e.value) u in
        record {
          right = λ k v h. elim h [
            | inl is ↦ (let ek : e.user ≡ k = ap (λ (p : Pair). p.0) is in let ev : e.value ≡ v = ap (λ (p : Pair). p.1) is in
                (subst (IsOther told) ek (own_other told parts.0), subst (λ (x : UserKey). answer (e ∷ es) x s ≡ Some v) ek (mine ∙ ap (λ (x : List ℕ). Some x) ev)))
            | inr l ↦ from_rest k v l
          ];
          whole = λ k v o h. elim (same_or_not k) [
            | inl ek ↦ (let m : Some e.value ≡ Some v = sym mine ∙ subst (λ (x : UserKey). answer (e ∷ es) x s ≡ Some v) (sym ek) h in let ev : e.value ≡ v = cc m in
                inl (ap (λ (x : UserKey). (x, e.value)) ek ∙ ap (λ (w : List ℕ). (k, w)) ev))
            | inr ne ↦ inr (r.whole k v ne (sym (later k ne) ∙ h))
          ];
          ascending = (λ q h. (let p = r.right q.0 q.1 h in let w = answer_has es q.0 s q.1 p.1 in (subst (UserLe e.user) w.2 (first_key e w.0 (a.0 w.0 w.1)), p.0)), r.ascending);
        }
    go Deletion u =
        let mine : answer (e ∷ es) e.user s ≡ None = own_answer ∙ ap (λ (x : Kind). shown x e.value) u in
        record {
          right = from_rest;
          whole = λ k v o h. elim (same_or_not k) [
            | inl ek ↦ absurd (cc (mine, subst (λ (x : UserKey). answer (e ∷ es) x s ≡ Some v) (sym ek) h))
            | inr ne ↦ r.whole k v ne (sym (later k ne) ∙ h)
          ];
          ascending = r.ascending;
        }

pub shown_is : (s : ℕ) (told : Option UserKey) (es : List Entry) → IsSorted es → IsReached told es → IsShown s told es (pairs_of s told es)
shown_is s told [] a reach = record { right = λ k v h. absurd h; whole = λ k v o h. absurd (cc h); ascending = tt }
shown_is s told (e ∷ es) a reach = go (is_passed s told e) refl (shown_is s told es a.1 (less told reach)) (shown_is s (Some e.user) es a.1 (λ x h. first_key e x (a.0 x h)))
  where
    less : (told : Option UserKey) → IsReached told (e ∷ es) → IsReached told es
    less None re = tt
    less (Some k) re = λ x h. re x (inr h)

    go : (b : Bool) → is_passed s told e ≡ b → IsShown s told es (pairs_of s told es) → IsShown s (Some e.user) es (pairs_of s (Some e.user) es)
        → IsShown s told (e ∷ es) (cond b (pairs_of s told es) (put_pair e.kind (e.user, e.value) (pairs_of s (Some e.user) es)))
    go true t passed answers = shown_passed s told e es (pairs_of s told es) t passed
    go false t passed answers = shown_answers s told e es (pairs_of s (Some e.user) es) a reach t answers

-- a scan from the start
pub scan_is : (s : ℕ) (es : List Entry) → IsSorted es → IsScan s es (pairs_of s None es)
scan_is s es a = (let r = shown_is s None es a tt in record { right = λ k v h. (r.right k v h).1; whole = λ k v h. r.whole k v tt h; ascending = r.ascending })
