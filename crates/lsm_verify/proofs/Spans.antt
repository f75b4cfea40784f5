-- Judging where a table begins and ends says where its entries do.
use Rattle.std.proofs.Common.{◌≡◌, ℕ, ◌≤◌, Bool, true, false, List, [], ◌∷◌, ◌++◌, append-nil, append_assoc, length-append, Option, Some, None, cond, arith, Ordering, Less, Equal, Greater, refl, sym, ap, subst, inl, inr}
use Rattle.std.specs.Prelude.{◌⊎◌, ◌&&◌, nat_le, MatchOption}
use Rattle.std.specs.Ordering.{is_eq}
use Rattle.std.proofs.lemmas.Bool.{and_parts, and_from, cases_lt, leb-true, le-leb}
use Rattle.lsm_codec.specs.Lists.{Has}
use Rattle.lsm_verify.specs.declared.sequences.Sequences.{Sequences}
use Rattle.lsm_verify.specs.Settled.{AreSequencesOf}
use Rattle.lsm_codec.specs.Keys.{InternalKey, IsKey, key_cmp}
use Rattle.lsm_codec.specs.Entries.{Entry, internal_key}
use Rattle.lsm_codec.proofs.CallerLemmas.{has_cases, has_left, has_right, key_cmp-Equal, key_cmp-same}
use Rattle.lsm_model.specs.Streams.{IsAscending}
use Rattle.lsm_verify.specs.CheckedFiles.{IsSpanned, starts_with, ends_at, ends_with, of_one, spread, walked, walked_all}

-- ---- what the tests say

equal_says : (a b : InternalKey) → is_eq (key_cmp a b) ≡ true → a ≡ b
equal_says a b h = key_cmp-Equal a b (go (key_cmp a b) h)
  where
    go : (o : Ordering) → is_eq o ≡ true → o ≡ Equal
    go Less e = absurd (cc e)
    go Equal e = refl
    go Greater e = absurd (cc e)

equal_from : (a b : InternalKey) → a ≡ b → is_eq (key_cmp a b) ≡ true
equal_from a b e = ap is_eq (key_cmp-same a b e)

abbrev pub Begins : InternalKey → List Entry → Type 0
Begins key es = (e : Entry) × (rest : List Entry) × (es ≡ e ∷ rest) × (internal_key e ≡ key)

abbrev pub Ends : InternalKey → List Entry → Type 0
Ends key es = (front : List Entry) × (e : Entry) × (es ≡ front ++ e ∷ []) × (internal_key e ≡ key)

begins_says : (key : InternalKey) (es : List Entry) → starts_with key es ≡ true → Begins key es
begins_says key [] h = absurd (cc h)
begins_says key (e ∷ es) h = (e, es, refl, equal_says (internal_key e) key h)

begins_from : (key : InternalKey) (es : List Entry) → Begins key es → starts_with key es ≡ true
begins_from key es b = subst (λ (l : List Entry). starts_with key l ≡ true) (sym b.2) (equal_from (internal_key b.0) key b.3)

-- what the walk to the end says of the entry before it and of those on the way
record IsEnd (last : ℕ) (key : InternalKey) (before : Option InternalKey) (es : List Entry) : Type 0 where
  reached : (e : Entry) → Has es e → e.seq ≤ last
  end : ((es ≡ []) × (ends_at key before ≡ true)) ⊎ Ends key es

ends_says : (last : ℕ) (key : InternalKey) (before : Option InternalKey) (es : List Entry) → ends_with last key before es ≡ true → IsEnd last key before es
ends_says last key before [] h = record { reached = λ e k. absurd k; end = inl (refl, h) }
ends_says last key before (e ∷ es) h =
    let parts = and_parts (nat_le e.seq last) (ends_with last key (Some (internal_key e)) es) h in
    let rest = ends_says last key (Some (internal_key e)) es parts.1 in
    record {
      reached = λ x k. elim k [ inl s ↦ subst (λ (z : Entry). z.seq ≤ last) s (leb-true e.seq last parts.0) | inr t ↦ rest.reached x t ];
      end = inr (elim rest.end [
        | inl none ↦ ([], e, ap (λ (l : List Entry). e ∷ l) none.0, equal_says (internal_key e) key none.1)
        | inr more ↦ (e ∷ more.0, more.1, ap (λ (l : List Entry). e ∷ l) more.2, more.3)
      ]);
    }

ends_from_front : (last : ℕ) (key : InternalKey) (before : Option InternalKey) (front : List Entry) (e : Entry) → ((x : Entry) → Has (front ++ e ∷ []) x → x.seq ≤ last) → internal_key e ≡ key → ends_with last key before (front ++ e ∷ []) ≡ true
ends_from_front last key before [] e r k = and_from (nat_le e.seq last) (is_eq (key_cmp (internal_key e) key)) (le-leb e.seq last (r e (inl refl))) (equal_from (internal_key e) key k)
ends_from_front last key before (f ∷ front) e r k =
    and_from (nat_le f.seq last) (ends_with last key (Some (internal_key f)) (front ++ e ∷ [])) (le-leb f.seq last (r f (inl refl)))
    (ends_from_front last key (Some (internal_key f)) front e (λ x h. r x (inr h)) k)

ends_from : (last : ℕ) (key : InternalKey) (before : Option InternalKey) (es : List Entry) → ((x : Entry) → Has es x → x.seq ≤ last) → Ends key es → ends_with last key before es ≡ true
ends_from last key before es r d =
    subst (λ (l : List Entry). ends_with last key before l ≡ true) (sym d.2)
    (ends_from_front last key before d.0 d.1 (λ x h. r x (subst (λ (l : List Entry). Has l x) (sym d.2) h)) d.3)

-- ---- a table between two keys

pub spanned_says : (last : ℕ) (smallest largest : List ℕ) (es : List Entry) (first end : InternalKey) → IsKey smallest first → IsKey largest end → IsAscending es
    → starts_with first es ≡ true → ends_with last end None es ≡ true → IsSpanned last smallest largest es
spanned_says last smallest largest es first end ks kl up b d =
    let judged = ends_says last end None es d in
    record {
      range = record { smallest = first; largest = end };
      first = ks;
      end = kl;
      spans = record {
        ascending = up;
        first = begins_says first es b;
        last = elim judged.end [ inl none ↦ absurd (cc none.1) | inr e ↦ e ];
      };
      reached = judged.reached;
    }

pub spanned_begins : (last : ℕ) (smallest largest : List ℕ) (es : List Entry) (s : IsSpanned last smallest largest es) → starts_with s.range.smallest es ≡ true
spanned_begins last smallest largest es s = begins_from s.range.smallest es s.spans.first

pub spanned_ends : (last : ℕ) (smallest largest : List ℕ) (es : List Entry) (s : IsSpanned last smallest largest es) → ends_with last s.range.largest None es ≡ true
spanned_ends last smallest largest es s = ends_from last s.range.largest None es s.reached s.spans.last

-- ---- the sequences of a walk

record_more : (front : List Entry) (s : Sequences) (e : Entry) → AreSequencesOf front s → AreSequencesOf (front ++ e ∷ []) (spread s e.seq)
record_more front s e a = record {
  above = λ x h. elim (has_cases front (e ∷ []) x h) [
    | inl k ↦ (let le = a.above x k in omega arith)
    | inr k ↦ elim k [ inl same ↦ (let at : e.seq ≡ x.seq = ap (λ (y : Entry). y.seq) same in omega arith) | inr none ↦ absurd none ]
  ];
  below = λ x h. elim (has_cases front (e ∷ []) x h) [
    | inl k ↦ (let le = a.below x k in omega arith)
    | inr k ↦ elim k [ inl same ↦ (let at : e.seq ≡ x.seq = ap (λ (y : Entry). y.seq) same in omega arith) | inr none ↦ absurd none ]
  ];
  least = elim (cases_lt e.seq s.least) [
    | inl lt ↦ (e, has_right front (e ∷ []) e (inl refl), omega arith)
    | inr ge ↦ (let l = a.least in let is = l.2 in (l.0, has_left front (e ∷ []) l.0 l.1, omega arith))
  ];
  greatest = elim (cases_lt s.greatest e.seq) [
    | inl lt ↦ (e, has_right front (e ∷ []) e (inl refl), omega arith)
    | inr ge ↦ (let l = a.greatest in let is = l.2 in (l.0, has_left front (e ∷ []) l.0 l.1, omega arith))
  ];
  count = omega (arith, length-append front (e ∷ []), a.count);
}

sequences_of_one : (e : Entry) → AreSequencesOf (e ∷ []) (of_one e.seq)
sequences_of_one e = record {
  above = λ x h. elim h [ inl same ↦ (let at : e.seq ≡ x.seq = ap (λ (y : Entry). y.seq) same in omega arith) | inr none ↦ absurd none ];
  below = λ x h. elim h [ inl same ↦ (let at : e.seq ≡ x.seq = ap (λ (y : Entry). y.seq) same in omega arith) | inr none ↦ absurd none ];
  least = (e, inl refl, refl);
  greatest = (e, inl refl, refl);
  count = refl;
}

-- what a walk that came to the end says
record Walked (last : ℕ) (key : InternalKey) (before : Option InternalKey) (front es : List Entry) (r : Sequences) : Type 0 where
  test : ends_with last key before es ≡ true
  sequences : AreSequencesOf (front ++ es) r

walked_says : (last : ℕ) (key : InternalKey) (before : Option InternalKey) (s : Sequences) (front es : List Entry) (r : Sequences) → AreSequencesOf front s → walked last key before s es ≡ Some r → Walked last key before front es r
walked_says last key before s front [] r a w = go (ends_at key before) refl w
  where
    go : (b : Bool) → ends_at key before ≡ b → cond b (Some s) None ≡ Some r → Walked last key before front [] r
    go true at e = record { test = at; sequences = subst (λ (l : List Entry). AreSequencesOf l r) (sym (append-nil front)) (subst (AreSequencesOf front) (cc e) a) }
    go false at e = absurd (cc e)
walked_says last key before s front (e ∷ es) r a w =
    go (nat_le e.seq last) refl w (walked_says last key (Some (internal_key e)) (spread s e.seq) (front ++ e ∷ []) es r (record_more front s e a))
  where
    go : (b : Bool) → nat_le e.seq last ≡ b → cond b (walked last key (Some (internal_key e)) (spread s e.seq) es) None ≡ Some r
        → (walked last key (Some (internal_key e)) (spread s e.seq) es ≡ Some r → Walked last key (Some (internal_key e)) (front ++ e ∷ []) es r)
        → Walked last key before front (e ∷ es) r
    go true le h more =
        let rest = more h in
        record { test = and_from (nat_le e.seq last) (ends_with last key (Some (internal_key e)) es) le rest.test; sequences = subst (λ (l : List Entry). AreSequencesOf l r) (append_assoc front (e ∷ []) es) rest.sequences }
    go false le h more = absurd (cc h)

walked_none : (last : ℕ) (key : InternalKey) (before : Option InternalKey) (s : Sequences) (es : List Entry) → walked last key before s es ≡ None → ends_with last key before es ≡ false
walked_none last key before s [] w = go (ends_at key before) w
  where
    go : (b : Bool) → cond b (Some s) None ≡ None → b ≡ false
    go true e = absurd (cc e)
    go false e = refl
walked_none last key before s (e ∷ es) w = go (nat_le e.seq last) w (walked_none last key (Some (internal_key e)) (spread s e.seq) es)
  where
    go : (b : Bool) → cond b (walked last key (Some (internal_key e)) (spread s e.seq) es) None ≡ None
        → (walked last key (Some (internal_key e)) (spread s e.seq) es ≡ None → ends_with last key (Some (internal_key e)) es ≡ false)
        → (b && ends_with last key (Some (internal_key e)) es) ≡ false
    go true h more = more h
    go false h more = refl

-- what the whole walk says
abbrev pub IsWalk : ℕ → List ℕ → List ℕ → List Entry → Option Sequences → Type 0
IsWalk last smallest largest es r = MatchOption r (IsSpanned last smallest largest es → ⊥) (λ s. IsSpanned last smallest largest es × AreSequencesOf es s)

pub walk_says : (last : ℕ) (smallest largest : List ℕ) (es : List Entry) (first end : InternalKey) (r : Option Sequences) → IsKey smallest first → IsKey largest end
    → ((key : InternalKey) → IsKey smallest key → first ≡ key) → ((key : InternalKey) → IsKey largest key → end ≡ key) → IsAscending es
    → r ≡ walked_all last first end es → IsWalk last smallest largest es r
walk_says last smallest largest es first end r ks kl same_first same_end up is = subst (IsWalk last smallest largest es) (sym is) (go es up)
  where
    not_spanned : (es : List Entry) → ((starts_with first es && ends_with last end None es) ≡ true → ⊥) → IsSpanned last smallest largest es → ⊥
    not_spanned es fails s = fails (and_from (starts_with first es) (ends_with last end None es)
        (subst (λ (k : InternalKey). starts_with k es ≡ true) (sym (same_first s.range.smallest s.first)) (spanned_begins last smallest largest es s))
        (subst (λ (k : InternalKey). ends_with last k None es ≡ true) (sym (same_end s.range.largest s.end)) (spanned_ends last smallest largest es s)))

    go : (es : List Entry) → IsAscending es → IsWalk last smallest largest es (walked_all last first end es)
    go [] up = not_spanned [] (λ h. absurd (cc h))
    go (e ∷ es) up = begin (is_eq (key_cmp (internal_key e) first)) (nat_le e.seq last) refl refl
      where
        on : Option InternalKey
        on = Some (internal_key e)

        one : Sequences
        one = of_one e.seq

        finish : (o : Option Sequences) → walked last end on one es ≡ o → is_eq (key_cmp (internal_key e) first) ≡ true → nat_le e.seq last ≡ true → IsWalk last smallest largest (e ∷ es) o
        finish None w b l = not_spanned (e ∷ es) (λ h. (let ends = walked_none last end on one es w in let parts = and_parts (starts_with first (e ∷ es)) (ends_with last end None (e ∷ es)) h in
            let rest = and_parts (nat_le e.seq last) (ends_with last end on es) parts.1 in absurd (cc (ends, rest.1))))
        finish (Some s) w b l =
            let r = walked_says last end on one (e ∷ []) es s (sequences_of_one e) w in (
              spanned_says last smallest largest (e ∷ es) first end ks kl up b (and_from (nat_le e.seq last) (ends_with last end on es) l r.test),
              r.sequences,
            )

        begin : (b l : Bool) → is_eq (key_cmp (internal_key e) first) ≡ b → nat_le e.seq last ≡ l → IsWalk last smallest largest (e ∷ es) (cond (b && l) (walked last end on one es) None)
        begin true true eb el = finish (walked last end on one es) refl eb el
        begin true false eb el = not_spanned (e ∷ es) (λ h. (let parts = and_parts (starts_with first (e ∷ es)) (ends_with last end None (e ∷ es)) h in
            let rest = and_parts (nat_le e.seq last) (ends_with last end on es) parts.1 in absurd (cc (el, rest.0))))
        begin false l eb el = not_spanned (e ∷ es) (λ h. (let parts = and_parts (starts_with first (e ∷ es)) (ends_with last end None (e ∷ es)) h in absurd (cc (eb, parts.0))))
