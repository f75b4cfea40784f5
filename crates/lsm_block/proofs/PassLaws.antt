-- A search that passes entries by their own bytes.
use Rattle.std.proofs.Common.{◌≡◌, ℕ, zero, suc, ◌+◌, ◌-◌, ◌<◌, ◌≤◌, true, leb, List, [], ◌∷◌, ◌++◌}
use Rattle.std.proofs.Common.{length, get_or, take, drop, Some, Less, Equal, refl, sym, ap, ◌∙◌}
use Rattle.std.proofs.Common.{subst, arith, inl, inr}
use Rattle.std.specs.Prelude.{◌⊎◌}
use Rattle.std.specs.Option.{option_map}
use Rattle.std.specs.Ordering.{nat_cmp, is_lt}
use Rattle.std.specs.Cmp.{nat_cmp_is}
use Rattle.std.specs.Cmp.Lexicographic.{slice_cmp}
use Rattle.std.proofs.lemmas.Bool.{le-leb, leb-true, and_parts}
use Rattle.std.proofs.lemmas.Cmp.{nat_cmp_total, tied_itself}
use Rattle.std.proofs.lemmas.List.{take-take, take-append-le, length-take, length-take-le}
use Rattle.std.proofs.lemmas.List.{length-append, get_or_append_left, get_or-append-add}
use Rattle.std.proofs.lemmas.List.{get_or-take, get_or-drop, length-drop, take-append-drop}
use Rattle.std.proofs.Math.Seq.{take-append-add}
use Rattle.std.specs.Int.{w64, to_le_bytes}
use Rattle.lsm_codec.specs.Keys.{InternalKey, packed, key_bytes, key_cmp, is_internal, user_of}
use Rattle.lsm_codec.specs.Keys.{key_at}
use Rattle.lsm_codec.proofs.CallerLemmas.{IsBytes, internal_long, length-key_bytes}
use Rattle.lsm_block.specs.Block.{entry_of}
use Rattle.lsm_block.specs.KeyParts.{IsBelowAt}
use Rattle.lsm_block.specs.Reading.{numbers_at, piece_of, entry_at}
use Rattle.lsm_block.specs.Seeking.{readable, not_below, PassesTo}
use Rattle.lsm_block.specs.Walking.{seen, raw_key, ReadsOwn, GoesOn}
use Rattle.lsm_block.specs.declared.entry.RawEntry.{RawEntry}
use Rattle.lsm_block.proofs.SeenLaws.{sees}
use Rattle.lsm_block.proofs.OrderLaws.{below-step}
use Rattle.lsm_block.proofs.SeekLaws.{read_on_some, scan_ends}

-- ---- an entry by its own bytes

-- bytes that end in a key are one
pub internal_behind : (front own : List ℕ) → is_internal own ≡ true
    → is_internal (front ++ own) ≡ true
unfolding is_internal
internal_behind front own h =
    let parts = and_parts (leb 8 (length own)) (leb (get_or own (length own - 8) 0) 1) h in
    let long : 8 ≤ length own = leb-true 8 (length own) parts.0 in
    let low : leb (get_or own (length own - 8) 0) 1 ≡ true = parts.1 in
    let here : length (front ++ own) - 8 ≡ length front + (length own - 8) =
    omega (arith, length-append front own, long) in
    let first : get_or (front ++ own) (length (front ++ own) - 8) 0
    ≡ get_or own (length own - 8) 0 =
    ap (λ (n : ℕ). get_or (front ++ own) n 0) here
    ∙ get_or-append-add front own (length own - 8) 0 in
    let both : leb 8 (length (front ++ own)) ≡ true =
    le-leb _ _ (omega (arith, length-append front own, long)) in
    rw (both, first, low) refl

pub piece_alone : (before rest : List ℕ) (shared u l : ℕ) → shared ≤ length before
    → u + l ≤ length rest → is_internal (take u rest) ≡ true
    → Some (sees shared (take shared before ++ take u rest) (take l (drop u rest))
    (drop l (drop u rest))) ≡ option_map seen (piece_of before shared u l rest)
unfolding piece_of
piece_alone before rest shared u l within long internal =
    let c1 : leb shared (length before) ≡ true = le-leb _ _ within in
    let c2 : leb (u + l) (length rest) ≡ true = le-leb _ _ long in
    let c3 = internal_behind (take shared before) (take u rest) internal in
    rw (c1, c2, c3) refl

pub read_alone : (before text rest : List ℕ) (shared u l : ℕ)
    → numbers_at text ≡ Some (shared, u, l, rest) → shared ≤ length before → u + l ≤ length rest
    → is_internal (take u rest) ≡ true
    → Some (sees shared (take shared before ++ take u rest) (take l (drop u rest))
    (drop l (drop u rest))) ≡ option_map seen (entry_at before text)
unfolding entry_at
read_alone before text rest shared u l e within long internal =
    rw e (piece_alone before rest shared u l within long internal)

-- ---- below at a place

-- a list that is below at a place is below
pub below_less : (place : ℕ) (a b : List ℕ) → IsBelowAt place a b → slice_cmp nat_cmp a b ≡ Less
below_less zero [] b h = absurd (omega (arith, h.first))
below_less zero (x ∷ xs) [] h = absurd (omega (arith, h.second))
below_less zero (x ∷ xs) (y ∷ ys) h =
    let lt : nat_cmp x y ≡ Less = sym (nat_cmp_is x y Less h.less) in
    rw lt refl
below_less (suc place) [] b h = absurd (omega (arith, h.first))
below_less (suc place) (x ∷ xs) [] h = absurd (omega (arith, h.second))
below_less (suc place) (x ∷ xs) (y ∷ ys) h =
    let same : x ∷ take place xs ≡ y ∷ take place ys = h.same in
    let heads : x ≡ y = cc in
    let tails : take place xs ≡ take place ys = cc in
    let tied : nat_cmp x y ≡ Equal = ap (nat_cmp x) (sym heads) ∙ tied_itself nat_cmp_total x in
    rw tied (below_less place xs ys record {
      same = tails;
      first = omega (arith, h.first);
      second =
          omega (arith, h.second);
      less = h.less;
    })

-- behind a front that both have
pub below_behind : (shared common : ℕ) (own w : List ℕ) → shared ≤ length w → common < length own
    → common < length (drop shared w) → take common own ≡ take common (drop shared w)
    → get_or own common 0 < get_or (drop shared w) common 0
    → IsBelowAt (shared + common) (take shared w ++ own) w
below_behind shared common own w within first second same less =
    let front = take shared w in
    let len : length front ≡ shared = length-take-le shared w within in
    let at : shared + common ≡ length front + common = omega (arith, len) in
    let left : take (shared + common) (front ++ own) ≡ front ++ take common own =
    ap (λ (n : ℕ). take n (front ++ own)) at ∙ take-append-add front own common in
    let right : take (shared + common) w ≡ front ++ take common (drop shared w) =
    ap (take (shared + common)) (sym (take-append-drop shared w))
    ∙ ap (λ (n : ℕ). take n (front ++ drop shared w)) at
    ∙ take-append-add front (drop shared w) common in
    let there : get_or (front ++ own) (shared + common) 0 ≡ get_or own common 0 =
    ap (λ (n : ℕ). get_or (front ++ own) n 0) at ∙ get_or-append-add front own common 0 in
    record {
      same = left ∙ ap (λ (xs : List ℕ). front ++ xs) same ∙ sym right;
      first = omega (arith, length-append front own, len);
      second = omega (arith, length-drop shared w);
      less = omega (arith, there, get_or-drop shared w common 0, less);
    }

-- ---- keys that share a front with a key that is below

-- a list that goes on otherwise behind the place
pub below_on : (place shared : ℕ) (a b own : List ℕ) → IsBelowAt place a b → place < shared
    → shared ≤ length a → IsBelowAt place (take shared a ++ own) b
below_on place shared a b own h lt within =
    let len : length (take shared a) ≡ shared = length-take-le shared a within in
    record {
      same = take-append-le place (take shared a) own (omega arith)
          ∙ take-take place shared a (omega arith) ∙ h.same;
      first = omega (arith, length-append (take shared a) own);
      second = h.second;
      less = omega (
        arith,
        get_or_append_left (take shared a) own 0 place (omega arith),
        get_or-take shared a place 0 lt,
        h.less,
      );
    }

-- a list of which a front is below
pub below_whole : (place n : ℕ) (a b : List ℕ) → IsBelowAt place (take n a) b → IsBelowAt place a b
below_whole place n a b h =
    let lt : place < n = omega (arith, length-take n a, h.first) in
    record {
      same = sym (take-take place n a (omega arith)) ∙ h.same;
      first = omega (arith, length-take n a, h.first);
      second = h.second;
      less = omega (arith, get_or-take n a place 0 lt, h.less);
    }

-- the user key of a key that has its last eight bytes itself
user_is : (shared : ℕ) (before own : List ℕ) → 8 ≤ length own
    → user_of (take shared before ++ own) ≡ take shared before ++ take (length own - 8) own
user_is shared before own h =
    let front = take shared before in
    let n : length (front ++ own) - 8 ≡ length front + (length own - 8) =
    omega (arith, length-append front own, h) in
    ap (λ (m : ℕ). take m (front ++ own)) n ∙ take-append-add front own (length own - 8)

below_user : (k : List ℕ) (key : InternalKey) → slice_cmp nat_cmp (user_of k) key.user ≡ Less
    → is_lt (key_cmp (key_at k) key) ≡ true
unfolding key_at
below_user k key h = rw h refl

-- ---- a walk over entries that are below

-- A walk from a start is here: after a key of this length, which is below at the place. At the
-- start there is no key.
pub record Passed (text : List ℕ) (start : ℕ) (key : InternalKey)
    (offset len place : ℕ) : Type 0 where
  pub before : List ℕ
  pub same : not_below key (readable (length text) before (drop offset text))
      ≡ not_below key (readable (length text) [] (drop start text))
  pub len_is : length before ≡ len
  pub below : ((offset ≡ start) × (len ≡ 0) × (place ≡ 0)) ⊎ IsBelowAt place before key.user

pub passed_none : (text : List ℕ) (start : ℕ) (key : InternalKey) → Passed text start key start 0 0
passed_none text start key = record {
  before = [];
  same = refl;
  len_is = refl;
  below =
      inl (refl, refl, refl);
}

-- the key before has what it shares from the key that is looked for
shares_key : (text : List ℕ) (start : ℕ) (key : InternalKey) (offset len place shared : ℕ)
    (p : Passed text start key offset len place) → shared ≤ place
    → take shared p.before ≡ take shared key.user
shares_key text start key offset len place shared p within =
    elim p.below [
      | inl first ↦
          let none : shared ≡ 0 = omega (arith, first) in
          rw none refl
      | inr b ↦ sym (take-take shared place p.before within) ∙ ap (take shared) b.same
          ∙ take-take shared place key.user within
    ]

record IsBelowBoth (place : ℕ) (k w : List ℕ) : Type 0 where
  user : IsBelowAt place (user_of k) w
  whole : IsBelowAt place k w

both_below : (text : List ℕ) (start : ℕ) (key : InternalKey) (offset len place next : ℕ)
    (e : RawEntry) (p : Passed text start key offset len place) → ReadsOwn len (drop offset text) e
    → GoesOn place next key.user e → IsBelowBoth next (raw_key p.before e) key.user
both_below text start key offset len place next e p r g =
    let long : 8 ≤ length e.own.now = internal_long e.own.now r.internal in
    let own = take (length e.own.now - 8) e.own.now in
    let within : e.shared ≤ length p.before = omega (arith, p.len_is, r.within) in
    let user = user_is e.shared p.before e.own.now long in
    elim g [
      | inl far ↦ elim p.below [
        | inl first ↦ absurd (omega (arith, first, far, r.within))
        | inr b ↦
            let lt : place < e.shared = far.0 in
            let at : next ≡ place = far.1 in
            record {
              user = subst (λ (n : ℕ). IsBelowAt n (user_of (raw_key p.before e)) key.user) (sym at)
                  (subst (λ (u : List ℕ). IsBelowAt place u key.user) (sym user)
                  (below_on place e.shared p.before key.user own b lt within));
              whole = subst (λ (n : ℕ). IsBelowAt n (raw_key p.before e) key.user) (sym at)
                  (below_on place e.shared p.before key.user e.own.now b lt within);
            }
      ]
      | inr near ↦
          let front = shares_key text start key offset len place e.shared p near.0 in
          let here : IsBelowAt next (user_of (raw_key p.before e)) key.user =
          subst (λ (u : List ℕ). IsBelowAt next u key.user)
          (sym (user ∙ ap (λ (f : List ℕ). f ++ own) front)) near.1 in
          record {
            user = here;
            whole = below_whole next (length (raw_key p.before e) - 8)
                (raw_key p.before e) key.user here;
          }
    ]

-- one entry more
pub passed_on : (text : List ℕ) (start : ℕ) (key : InternalKey) (offset len place next : ℕ)
    (e : RawEntry) → IsBytes text → offset < length text → Passed text start key offset len place
    → ReadsOwn len (drop offset text) e → GoesOn place next key.user e
    → Passed text start key (length text - length e.after.now)
    (e.shared + length e.own.now) next
passed_on text start key offset len place next e fits lt p r g =
    let within : e.shared ≤ length p.before = omega (arith, p.len_is, r.within) in
    let m = read_on_some text p.before offset e.shared
    (raw_key p.before e) e.value.now e.after.now fits lt (r.read p.before within) in
    let b = both_below text start key offset len place next e p r g in
    let less = below_user (raw_key p.before e) key
    (below_less next (user_of (raw_key p.before e)) key.user b.user) in
    record {
      before = raw_key p.before e;
      same = sym (below-step key (entry_of (key_at (raw_key p.before e)) e.value.now) _ less)
          ∙ ap (not_below key) (sym m.moves) ∙ p.same;
      len_is = length-append (take e.shared p.before) e.own.now
          ∙ ap (λ (n : ℕ). n + length e.own.now) (length-take-le e.shared p.before within);
      below = inr b.whole;
    }

pub reads_shorter : (text : List ℕ) (start : ℕ) (key : InternalKey) (offset len place : ℕ)
    (e : RawEntry) → IsBytes text → offset < length text → Passed text start key offset len place
    → ReadsOwn len (drop offset text) e → length e.after.now < length text - offset
reads_shorter text start key offset len place e fits lt p r =
    (read_on_some text p.before offset e.shared (raw_key p.before e) e.value.now e.after.now fits lt
    (r.read p.before (omega (arith, p.len_is, r.within)))).shorter

-- where it stops at an entry that shares no more than the key that is looked for has
pub stops_here : (text : List ℕ) (start : ℕ) (key : InternalKey) (offset len place : ℕ)
    (e : RawEntry) → IsBytes text → offset < length text → Passed text start key offset len place
    → ReadsOwn len (drop offset text) e → e.shared ≤ place → PassesTo text start key offset
stops_here text start key offset len place e fits lt p r near =
    elim p.below [
      | inl first ↦ inl first.0
      | inr b ↦
          let bytes = key_bytes key in
          let within : e.shared ≤ length p.before = omega (arith, p.len_is, r.within) in
          let has : e.shared ≤ length bytes = omega (arith, length-key_bytes key, b.second) in
          let front : take e.shared bytes ≡ take e.shared p.before =
          take-append-le e.shared key.user (to_le_bytes w64 (packed key)) (omega (arith, b.second))
          ∙ sym (shares_key text start key offset len place e.shared p near) in
          let one = read_on_some text p.before offset e.shared
          (raw_key p.before e) e.value.now e.after.now fits lt (r.read p.before within) in
          let other = read_on_some text bytes offset e.shared
          (raw_key bytes e) e.value.now e.after.now fits lt (r.read bytes has) in
          let same = ap (λ (f : List ℕ). entry_of (key_at (f ++ e.own.now)) e.value.now ∷ readable
          (length text) (f ++ e.own.now) (drop (length text - length e.after.now) text)) front
          in
          inr (ap (not_below key) (other.moves ∙ same ∙ sym one.moves) ∙ p.same)
    ]

-- where all entries are passed
pub stops_behind : (text : List ℕ) (start : ℕ) (key : InternalKey) (offset len place : ℕ)
    → length text ≤ offset → Passed text start key offset len place → PassesTo text start key offset
stops_behind text start key offset len place h p =
    inr (ap (not_below key) (scan_ends text (key_bytes key) offset h
    ∙ sym (scan_ends text p.before offset h)) ∙ p.same)

pub place_within : (text : List ℕ) (start : ℕ) (key : InternalKey) (offset len place : ℕ)
    → Passed text start key offset len place → place ≤ length key.user
place_within text start key offset len place p =
    elim p.below [
      | inl first ↦ omega (arith, first)
      | inr b ↦ omega (arith, b.second)
    ]
