-- In ascending entries a read finds what stands at the key of its user key and sequence.
use Rattle.std.proofs.Common.{◌≡◌, ℕ, ◌+◌, ◌^◌, ◌<◌, ◌≤◌, ◌⊎◌, Bool, true, false, cond, List, [], ◌∷◌, Option, Some, None, refl, sym, ap, ◌∙◌, subst, inl, inr, arith, Ordering, Less, Equal, Greater}
use Rattle.std.specs.Prelude.{nat_lt, nat_le, ◌&&◌}
use Rattle.std.specs.Str.{bytes_eq}
use Rattle.std.specs.List.{AllByRecursion}
use Rattle.std.specs.Ordering.{nat_cmp, is_lt, is_le, ordering_reverse}
use Rattle.std.specs.Cmp.Lexicographic.{slice_cmp}
use Rattle.std.proofs.lemmas.Bool.{le-ltb, le-leb}
use Rattle.std.proofs.lemmas.Cmp.{nat_list_cmp_total, ranked}
use Rattle.lsm_codec.specs.Keys.{UserKey, UserLe, user_le, InternalKey, packed, key_cmp, then_by}
use Rattle.lsm_codec.specs.Entries.{Entry, internal_key, entry_cmp, stamp, is_allowed, first_of_two, newest}
use Rattle.lsm_codec.specs.Lists.{Has}
use Rattle.lsm_codec.proofs.CallerLemmas.{key_from_test, test_from_key, user_le_antisym, IsAllowed, allowed_says, allowed_from, kind_number_le, Finds, newest_finds}
use Rattle.lsm_block.specs.Block.{Ascends}
use Rattle.lsm_block.specs.Seeking.{not_below, drop_if}
use Rattle.lsm_table.specs.Searching.{read_key, of_user}
use Rattle.lsm_table.proofs.KeyOrder.{le_less_trans, not_less, is_less}

-- ---- the first entry not below a key

pub below-step : (key : InternalKey) (e : Entry) (es : List Entry) → is_lt (key_cmp (internal_key e) key) ≡ true → not_below key (e ∷ es) ≡ not_below key es
unfolding not_below
below-step key e es h = ap (λ (b : Bool). drop_if b (not_below key es) (e ∷ es)) h

pub below-stop : (key : InternalKey) (e : Entry) (es : List Entry) → is_lt (key_cmp (internal_key e) key) ≡ false → not_below key (e ∷ es) ≡ e ∷ es
unfolding not_below
below-stop key e es h = ap (λ (b : Bool). drop_if b (not_below key es) (e ∷ es)) h

pub below-nothing : (key : InternalKey) → not_below key [] ≡ []
unfolding not_below
below-nothing key = refl

pub either_bool : (b : Bool) → (b ≡ true) ⊎ (b ≡ false)
either_bool true = inl refl
either_bool false = inr refl

-- ---- what stands after an entry

-- all entries of the list come after the key
abbrev pub AllAfter : InternalKey → List Entry → Type 0
AllAfter key es = AllByRecursion (λ e. key_cmp key (internal_key e) ≡ Less) es

pub after_trans : (a b : InternalKey) (es : List Entry) → is_le (key_cmp a b) ≡ true → AllAfter b es → AllAfter a es
after_trans a b [] h s = tt
after_trans a b (e ∷ es) h s = (le_less_trans a b (internal_key e) h s.0, after_trans a b es h s.1)

pub less_le : (o : Ordering) → o ≡ Less → is_le o ≡ true
less_le o e = ap is_le e

pub ascends_after : (e : Entry) (es : List Entry) → Ascends (e ∷ es) → AllAfter (internal_key e) es
ascends_after e [] s = tt
ascends_after e (f ∷ es) s = (s.0, after_trans (internal_key e) (internal_key f) es (less_le (entry_cmp e f) s.0) (ascends_after f es s.1))

pub ascends_tail : (e : Entry) (es : List Entry) → Ascends (e ∷ es) → Ascends es
ascends_tail e [] s = tt
ascends_tail e (f ∷ es) s = s.1

-- ---- keys of one user

by_user : (o p : Ordering) → then_by o p ≡ Less → (o ≡ Less) ⊎ ((o ≡ Equal) × (p ≡ Less))
by_user Less p e = inl refl
by_user Equal p e = inr (refl, e)
by_user Greater p e = absurd cc

lt_from : (x y : ℕ) → nat_cmp x y ≡ Less → x < y
lt_from x y e = let r = ranked x y Less (sym e) in r

clash : (o : Ordering) → o ≡ ordering_reverse o → o ≡ Less → ⊥
clash Less r e = absurd cc
clash Equal r e = absurd cc
clash Greater r e = absurd cc

less_not_self : (u : UserKey) → slice_cmp nat_cmp u u ≡ Less → ⊥
less_not_self u e = clash (slice_cmp nat_cmp u u) (nat_list_cmp_total.antisymm u u) e

-- of two keys of one user the earlier has the greater number
packed_falls : (a b : InternalKey) → key_cmp a b ≡ Less → a.user ≡ b.user → packed b < packed a
packed_falls a b h same =
    elim (by_user (slice_cmp nat_cmp a.user b.user) (nat_cmp (packed b) (packed a)) h) [
      | inl less ↦ absurd (less_not_self a.user (subst (λ (u : UserKey). slice_cmp nat_cmp a.user u ≡ Less) (sym same) less))
      | inr rest ↦ lt_from (packed b) (packed a) rest.1
    ]

le_cases : (o : Ordering) → is_le o ≡ true → (o ≡ Less) ⊎ (o ≡ Equal)
le_cases Less h = inl refl
le_cases Equal h = inr refl
le_cases Greater h = absurd cc

both_equal : (o p : Ordering) → then_by o p ≡ Equal → (o ≡ Equal) × (p ≡ Equal)
both_equal Less p e = absurd cc
both_equal Equal p e = (refl, e)
both_equal Greater p e = absurd cc

equal_from : (x y : ℕ) → nat_cmp x y ≡ Equal → x ≡ y
equal_from x y e = let r = ranked x y Equal (sym e) in r

packed_le : (a b : InternalKey) → is_le (key_cmp a b) ≡ true → a.user ≡ b.user → packed b ≤ packed a
packed_le a b h same =
    elim (le_cases (key_cmp a b) h) [
      | inl less ↦ omega (arith, packed_falls a b less same)
      | inr equal ↦ omega (arith, equal_from (packed b) (packed a) (both_equal (slice_cmp nat_cmp a.user b.user) (nat_cmp (packed b) (packed a)) equal).1)
    ]

-- a key that does not stand after another has no greater user
pub user_le_from : (a b : InternalKey) → is_le (key_cmp a b) ≡ true → UserLe a.user b.user
unfolding user_le
user_le_from a b h =
    elim (le_cases (key_cmp a b) h) [
      | inl less ↦ elim (by_user (slice_cmp nat_cmp a.user b.user) (nat_cmp (packed b) (packed a)) less) [
        | inl first ↦ ap is_le first
        | inr second ↦ ap is_le second.0
      ]
      | inr equal ↦ ap is_le (both_equal (slice_cmp nat_cmp a.user b.user) (nat_cmp (packed b) (packed a)) equal).0
    ]

-- ---- what is newest

abbrev NoneAllowed : UserKey → ℕ → List Entry → Type 0
NoneAllowed k s es = AllByRecursion (λ e. is_allowed k s e ≡ false) es

none_allowed : (k : UserKey) (s : ℕ) (es : List Entry) → NoneAllowed k s es → newest k s es ≡ None
none_allowed k s [] h = refl
none_allowed k s (e ∷ es) h = let here = h.0 in rw here (none_allowed k s es h.1)

pub after_at : (key : InternalKey) (es : List Entry) (f : Entry) → AllAfter key es → Has es f → key_cmp key (internal_key f) ≡ Less
after_at key [] f s h = absurd h
after_at key (e ∷ es) f s h = elim h [ inl same ↦ subst (λ (x : Entry). key_cmp key (internal_key x) ≡ Less) same s.0 | inr rest ↦ after_at key es f s.1 rest ]

-- an entry that is allowed is newer than all that come after it
first_is_newest : (k : UserKey) (s : ℕ) (e : Entry) (es : List Entry) → AllAfter (internal_key e) es → e.user ≡ k → (o : Option Entry) → Finds es k s o → first_of_two e o ≡ e
first_is_newest k s e es after same None n = refl
first_is_newest k s e es after same (Some f) n =
    let falls = packed_falls (internal_key e) (internal_key f) (after_at (internal_key e) es f after n.here) (same ∙ sym n.allowed.key) in
    let later : nat_lt (stamp e) (stamp f) ≡ false = le-ltb (stamp e) (stamp f) (omega (arith, falls)) in
    rw later refl

allowed_first : (k : UserKey) (s : ℕ) (e : Entry) (es : List Entry) → AllAfter (internal_key e) es → IsAllowed k s e → newest k s (e ∷ es) ≡ Some e
allowed_first k s e es after a =
    let here = allowed_from k s e a in
    let first = first_is_newest k s e es after a.key (newest k s es) (newest_finds k s es) in
    rw here (ap (λ (x : Entry). Some x) first)

not_allowed_below : (k : UserKey) (s : ℕ) (e : Entry) → key_cmp (internal_key e) (read_key k s) ≡ Less → (b : Bool) → is_allowed k s e ≡ b → b ≡ false
not_allowed_below k s e h false t = refl
not_allowed_below k s e h true t =
    let a = allowed_says k s e t in
    absurd (omega (arith, packed_falls (internal_key e) (read_key k s) h a.key, a.seq, kind_number_le e.kind))

other_user : (k : UserKey) (s : ℕ) (e : Entry) → bytes_eq e.user k ≡ false → is_allowed k s e ≡ false
other_user k s e h = ap (λ (b : Bool). b && nat_le e.seq s) h

user_not : (k : UserKey) (f : Entry) → (f.user ≡ k → ⊥) → (b : Bool) → bytes_eq f.user k ≡ b → b ≡ false
user_not k f differs false t = refl
user_not k f differs true t = absurd (differs (key_from_test f.user k t))

-- Where the first entry at or after the key is another user's, all later ones are too.
none_later : (k : UserKey) (s : ℕ) (e : Entry) (es : List Entry) → is_le (key_cmp (read_key k s) (internal_key e)) ≡ true → (e.user ≡ k → ⊥) → AllAfter (internal_key e) es → NoneAllowed k s es
none_later k s e [] from differs after = tt
none_later k s e (f ∷ es) from differs after =
    let low = user_le_from (read_key k s) (internal_key e) from in
    let high = user_le_from (internal_key e) (internal_key f) (less_le (key_cmp (internal_key e) (internal_key f)) after.0) in
    let other : f.user ≡ k → ⊥ = λ same. differs (user_le_antisym e.user k (subst (UserLe e.user) same high) low) in
    (other_user k s f (user_not k f other (bytes_eq f.user k) refl ∙ refl), none_later k s e es from differs after.1)

at_stop : (k : UserKey) (s : ℕ) (e : Entry) (es : List Entry) → AllAfter (internal_key e) es → is_le (key_cmp (read_key k s) (internal_key e)) ≡ true → (b : Bool) → bytes_eq e.user k ≡ b
    → newest k s (e ∷ es) ≡ cond b (Some e) None
at_stop k s e es after from true t =
    let same = key_from_test e.user k t in
    let least = packed_le (read_key k s) (internal_key e) from (sym same) in
    allowed_first k s e es after (record { key = same; seq = omega (arith, least, kind_number_le e.kind) })
at_stop k s e es after from false t =
    let differs : e.user ≡ k → ⊥ = λ same. absurd (cc (t, test_from_key e.user k same)) in
    none_allowed k s (e ∷ es) (other_user k s e t, none_later k s e es from differs after)

-- Ascending entries: the newest is the first at or after the key that a read looks from, if it is
-- the user's.
pub newest_at : (k : UserKey) (s : ℕ) (es : List Entry) → Ascends es → newest k s es ≡ of_user k (not_below (read_key k s) es)
newest_at k s [] a = ap (of_user k) (sym (below-nothing (read_key k s)))
newest_at k s (e ∷ es) a = by_test (newest_at k s es (ascends_tail e es a)) (is_lt (key_cmp (internal_key e) (read_key k s))) refl
  where
    by_test : newest k s es ≡ of_user k (not_below (read_key k s) es) → (b : Bool) → is_lt (key_cmp (internal_key e) (read_key k s)) ≡ b → newest k s (e ∷ es) ≡ of_user k (not_below (read_key k s) (e ∷ es))
    by_test rest true t =
        let skipped : is_allowed k s e ≡ false = not_allowed_below k s e (is_less (key_cmp (internal_key e) (read_key k s)) t) (is_allowed k s e) refl in
        rw skipped (rest ∙ ap (of_user k) (sym (below-step (read_key k s) e es t)))
    by_test rest false t =
        at_stop k s e es (ascends_after e es a) (not_less (internal_key e) (read_key k s) t) (bytes_eq e.user k) refl ∙ ap (of_user k) (sym (below-stop (read_key k s) e es t))

-- ---- sequences at most the greatest

abbrev pub SeqsFit : List Entry → Type 0
SeqsFit es = AllByRecursion (λ e. e.seq < 2 ^ 56) es

-- A read above the greatest sequence is one at it.
pub newest_capped : (k : UserKey) (s t : ℕ) (es : List Entry) → SeqsFit es → 2 ^ 56 ≤ s + 1 → 2 ^ 56 ≤ t + 1 → newest k s es ≡ newest k t es
newest_capped k s t [] f hs ht = refl
newest_capped k s t (e ∷ es) f hs ht =
    let at_s : nat_le e.seq s ≡ true = le-leb e.seq s (omega (arith, f.0)) in
    let at_t : nat_le e.seq t ≡ true = le-leb e.seq t (omega (arith, f.0)) in
    let rest = newest_capped k s t es f.1 hs ht in
    rw (at_s, at_t, rest) refl
