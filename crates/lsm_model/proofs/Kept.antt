-- A merge that keeps the kept entries of its inputs drops as `Drops` allows, where what stays
-- outside is newer wherever a deletion is dropped.
use Rattle.std.proofs.Common.{◌≡◌, ℕ, ◌≤◌, ◌<◌, Bool, true, false, List, refl, sym, ◌∙◌, ap, subst, inl, inr, arith}
use Rattle.std.specs.Prelude.{◌⊎◌, ◌&&◌, not, nat_lt, nat_le}
use Rattle.std.specs.Str.{bytes_eq}
use Rattle.std.proofs.lemmas.Bool.{and_parts, and_from, leb-true, le-leb, lt-ltb, ltb-true, not-true, cases_order, cases_lt, both_ways}
use Rattle.lsm_codec.specs.declared.kind.Kind.{Kind}
use Rattle.lsm_codec.specs.declared.kind.Kind.TheVariants.{Deletion, Value}
use Rattle.lsm_codec.specs.Entries.{Entry, stamp}
use Rattle.lsm_codec.specs.Keys.{UserKey}
use Rattle.lsm_codec.specs.Lists.{Has}
use Rattle.lsm_codec.proofs.CallerLemmas.{key_from_test, test_from_key, any_at, any_says, has_filter, filter_has, kind_number_le, same_kind}
use Rattle.lsm_model.specs.Kept.{is_hidden, is_void, covers, kept_entries, is_deletion, IsHidden, IsVoid}
use Rattle.lsm_model.proofs.Drops.{IsGone, Drops}

pub hidden_says : (es : List Entry) (f : ℕ) (e : Entry) → is_hidden es f e ≡ true → IsHidden es f e
hidden_says es f e h =
    let r = any_says (λ (y : Entry). bytes_eq y.user e.user && (nat_lt (stamp e) (stamp y) && nat_le y.seq f)) es h in
    let p = and_parts (bytes_eq (r.0).user e.user) (nat_lt (stamp e) (stamp r.0) && nat_le (r.0).seq f) r.2 in
    let q = and_parts (nat_lt (stamp e) (stamp r.0)) (nat_le (r.0).seq f) p.1 in
    (r.0, r.1, key_from_test (r.0).user e.user p.0, ltb-true (stamp e) (stamp r.0) q.0, leb-true (r.0).seq f q.1)

pub hidden_from : (es : List Entry) (f : ℕ) (e : Entry) → IsHidden es f e → is_hidden es f e ≡ true
hidden_from es f e h =
    any_at (λ (y : Entry). bytes_eq y.user e.user && (nat_lt (stamp e) (stamp y) && nat_le y.seq f)) es h.0 h.1
    (and_from (bytes_eq (h.0).user e.user) (nat_lt (stamp e) (stamp h.0) && nat_le (h.0).seq f) (test_from_key (h.0).user e.user h.2)
    (and_from (nat_lt (stamp e) (stamp h.0)) (nat_le (h.0).seq f) (lt-ltb (stamp e) (stamp h.0) h.3) (le-leb (h.0).seq f h.4)))

deletion_says : (kind : Kind) → is_deletion kind ≡ true → kind ≡ Deletion
deletion_says Deletion h = refl
deletion_says Value h = absurd (cc h)

pub void_says : (f : ℕ) (ranges : List (UserKey × UserKey)) (e : Entry) → is_void f ranges e ≡ true → IsVoid f ranges e
void_says f ranges e h =
    let p = and_parts (is_deletion e.kind) (nat_le e.seq f && not (covers ranges e.user)) h in
    let q = and_parts (nat_le e.seq f) (not (covers ranges e.user)) p.1 in
    record { deletion = deletion_says e.kind p.0; old = leb-true e.seq f q.0; uncovered = not-true (covers ranges e.user) q.1 }

not_of : (b : Bool) → b ≡ false → not b ≡ true
not_of b h = ap not h

pub void_from : (f : ℕ) (ranges : List (UserKey × UserKey)) (e : Entry) → IsVoid f ranges e → is_void f ranges e ≡ true
void_from f ranges e h =
    and_from (is_deletion e.kind) (nat_le e.seq f && not (covers ranges e.user)) (ap is_deletion h.deletion)
    (and_from (nat_le e.seq f) (not (covers ranges e.user)) (le-leb e.seq f h.old) (not_of (covers ranges e.user) h.uncovered))

-- an entry that is kept is an input, and neither hidden nor void
pub record IsKept (es : List Entry) (f : ℕ) (ranges : List (UserKey × UserKey)) (e : Entry) : Type 0 where
  pub input : Has es e
  pub seen : IsHidden es f e → ⊥
  pub needed : IsVoid f ranges e → ⊥

pub kept_says : (es : List Entry) (f : ℕ) (ranges : List (UserKey × UserKey)) (e : Entry) → Has (kept_entries es f ranges) e → IsKept es f ranges e
kept_says es f ranges e h =
    let r = filter_has (λ (y : Entry). not (is_hidden es f y) && not (is_void f ranges y)) es e h in
    let p = and_parts (not (is_hidden es f e)) (not (is_void f ranges e)) r.1 in
    record {
      input = r.0;
      seen = λ x. both_ways (is_hidden es f e) (not-true (is_hidden es f e) p.0) (hidden_from es f e x);
      needed = λ x. both_ways (is_void f ranges e) (not-true (is_void f ranges e) p.1) (void_from f ranges e x);
    }

-- an input is kept, or hidden, or void and not hidden
pub kept_cases : (es : List Entry) (f : ℕ) (ranges : List (UserKey × UserKey)) (e : Entry) → Has es e
    → Has (kept_entries es f ranges) e ⊎ (IsHidden es f e ⊎ (IsVoid f ranges e × (IsHidden es f e → ⊥)))
kept_cases es f ranges e h = go (is_hidden es f e) (is_void f ranges e) refl refl
  where
    go : (a b : Bool) → is_hidden es f e ≡ a → is_void f ranges e ≡ b → Has (kept_entries es f ranges) e ⊎ (IsHidden es f e ⊎ (IsVoid f ranges e × (IsHidden es f e → ⊥)))
    go true b p q = inr (inl (hidden_says es f e p))
    go false true p q = inr (inr (void_says f ranges e q, λ x. both_ways (is_hidden es f e) p (hidden_from es f e x)))
    go false false p q = inl (has_filter (λ (y : Entry). not (is_hidden es f y) && not (is_void f ranges y)) es e h
        (and_from (not (is_hidden es f e)) (not (is_void f ranges e)) (not_of (is_hidden es f e) p) (not_of (is_void f ranges e) q)))

kind_of_stamp : (x z : Entry) → stamp x ≡ stamp z → x.kind ≡ z.kind
kind_of_stamp x z h = same_kind x.kind z.kind (omega (arith, kind_number_le x.kind, kind_number_le z.kind))

seq_of_stamp : (x z : Entry) → stamp x ≡ stamp z → x.seq ≡ z.seq
seq_of_stamp x z h = omega (arith, kind_number_le x.kind, kind_number_le z.kind)

-- what is kept of the key of a void entry is newer
pub kept_above_void : (es : List Entry) (f : ℕ) (ranges : List (UserKey × UserKey)) (x z : Entry) → Has es x → IsVoid f ranges x → (IsHidden es f x → ⊥)
    → IsKept es f ranges z → z.user ≡ x.user → x.seq < z.seq
kept_above_void es f ranges x z hx v seen k same = elim (cases_order (stamp x) (stamp z)) [
  | inl e ↦ absurd (k.needed record {
    deletion = sym (kind_of_stamp x z e) ∙ v.deletion;
    old = subst (λ (n : ℕ). n ≤ f) (seq_of_stamp x z e) v.old;
    uncovered = ap (covers ranges) same ∙ v.uncovered;
  })
  | inr o ↦ elim o [
    | inl below ↦ elim (cases_lt f z.seq) [ inl lt ↦ (let old : x.seq ≤ f = v.old in omega arith) | inr le ↦ absurd (seen (z, k.input, same, below, le)) ]
    | inr above ↦ absurd (k.seen (x, hx, sym same, above, v.old))
  ]
]

-- old is new, but for inputs es of which new has what is kept
pub record Merges (old new es : List Entry) (f : ℕ) (ranges : List (UserKey × UserKey)) : Type 0 where
  pub inputs : (e : Entry) → Has es e → Has old e
  pub left : (e : Entry) → Has old e → Has es e ⊎ Has new e
  pub added : (e : Entry) → Has (kept_entries es f ranges) e → Has new e
  -- whatever is new is kept, or was there, and is newer than the inputs of its key if no range
  -- covers that
  pub from : (e : Entry) → Has new e → Has (kept_entries es f ranges) e ⊎ (Has old e × ((x : Entry) → Has es x → e.user ≡ x.user → covers ranges x.user ≡ false → x.seq < e.seq))

pub merges_drops : (old new es : List Entry) (f : ℕ) (ranges : List (UserKey × UserKey)) → Merges old new es f ranges → Drops old new f
merges_drops old new es f ranges m = record {
  within = λ e h. elim (m.from e h) [ inl k ↦ m.inputs e (kept_says es f ranges e k).input | inr r ↦ r.0 ];
  lost = λ e h. elim (m.left e h) [ inl i ↦ input e i | inr n ↦ inl n ];
}
  where
    newer : (x : Entry) → Has es x → IsVoid f ranges x → (IsHidden es f x → ⊥) → (z : Entry) → Has new z → z.user ≡ x.user → x.seq < z.seq
    newer x i v seen z h same = elim (m.from z h) [
      | inl k ↦ kept_above_void es f ranges x z i v seen (kept_says es f ranges z k) same
      | inr r ↦ r.1 x i same v.uncovered
    ]

    input : (e : Entry) → Has es e → Has new e ⊎ (IsHidden old f e ⊎ IsGone new e)
    input e i = elim (kept_cases es f ranges e i) [
      | inl k ↦ inl (m.added e k)
      | inr o ↦ elim o [
        | inl h ↦ inr (inl (h.0, m.inputs h.0 h.1, h.2, h.3, h.4))
        | inr v ↦ inr (inr (v.0.deletion, newer e i v.0 v.1))
      ]
    ]
