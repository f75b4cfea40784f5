-- What `newest` finds, and that it is the only one.
use Rattle.std.proofs.Common.{◌≡◌, ℕ, ◌≤◌, ◌<◌, Bool, true, false, cond, List, [], ◌∷◌, Option, Some, None, refl, sym, subst, inl, inr, arith}
use Rattle.std.specs.Prelude.{nat_lt, nat_le}
use Rattle.std.specs.Str.{bytes_eq}
use Rattle.std.proofs.lemmas.Bool.{and_parts, and_from, leb-true, le-leb, ltb-true, ltb-false}
use Rattle.lsm_codec.specs.declared.kind.Kind.{Kind}
use Rattle.lsm_codec.specs.declared.kind.Kind.TheVariants.{Deletion, Value}
use Rattle.lsm_codec.specs.Lists.{Has}
use Rattle.lsm_codec.specs.Keys.{UserKey, kind_number}
use Rattle.lsm_codec.specs.Entries.{Entry, stamp, is_allowed, first_of_two, newest}
use Rattle.lsm_codec.proofs.Keys.{key_from_test, test_from_key}

pub record IsAllowed (k : UserKey) (s : ℕ) (e : Entry) : Type 0 where
  pub key : e.user ≡ k
  pub seq : e.seq ≤ s

-- e is the first of the entries of k with a sequence at most s
pub record IsNewest (es : List Entry) (k : UserKey) (s : ℕ) (e : Entry) : Type 0 where
  pub here : Has es e
  pub allowed : IsAllowed k s e
  pub most : (y : Entry) → Has es y → IsAllowed k s y → stamp y ≤ stamp e

pub allowed_says : (k : UserKey) (s : ℕ) (e : Entry) → is_allowed k s e ≡ true → IsAllowed k s e
allowed_says k s e h =
    let both = and_parts (bytes_eq e.user k) (nat_le e.seq s) h in
    record { key = key_from_test e.user k both.0; seq = leb-true e.seq s both.1 }

pub allowed_from : (k : UserKey) (s : ℕ) (e : Entry) → IsAllowed k s e → is_allowed k s e ≡ true
allowed_from k s e h = and_from (bytes_eq e.user k) (nat_le e.seq s) (test_from_key e.user k h.key) (le-leb e.seq s h.seq)

pub kind_number_le : (kind : Kind) → kind_number kind ≤ 1
kind_number_le Deletion = omega arith
kind_number_le Value = omega arith

-- a smaller sequence, a smaller stamp
pub stamp_lt : (x y : Entry) → x.seq < y.seq → stamp x < stamp y
stamp_lt x y h = omega (arith, kind_number_le x.kind, kind_number_le y.kind)

pub seq_le : (x y : Entry) → stamp x ≤ stamp y → x.seq ≤ y.seq
seq_le x y h = omega (arith, kind_number_le x.kind, kind_number_le y.kind)

pub same_kind : (a b : Kind) → kind_number a ≡ kind_number b → a ≡ b
same_kind Value Value h = refl
same_kind Deletion Deletion h = refl
same_kind Value Deletion h = absurd (omega arith)
same_kind Deletion Value h = absurd (omega arith)

-- what the search finds is newest, and where it finds nothing, nothing is allowed
abbrev pub Finds : List Entry → UserKey → ℕ → Option Entry → Type 0
Finds es k s None = (y : Entry) → Has es y → IsAllowed k s y → ⊥
Finds es k s (Some e) = IsNewest es k s e

pub newest_finds : (k : UserKey) (s : ℕ) (es : List Entry) → Finds es k s (newest k s es)
newest_finds k s [] = λ y h a. h
newest_finds k s (e ∷ es) = at_test (is_allowed k s e) refl (newest k s es) (newest_finds k s es)
  where
    at_first : IsAllowed k s e → (f : Entry) → IsNewest es k s f → (b : Bool) → nat_lt (stamp e) (stamp f) ≡ b → IsNewest (e ∷ es) k s (cond b f e)
    at_first a f n true t = record {
      here = inr n.here;
      allowed = n.allowed;
      most = λ y h ya. elim h [ inl same ↦ subst (λ (w : Entry). stamp w ≤ stamp f) same (omega (arith, ltb-true (stamp e) (stamp f) t)) | inr rest ↦ n.most y rest ya ];
    }
    at_first a f n false t = record {
      here = inl refl;
      allowed = a;
      most = λ y h ya. elim h [ inl same ↦ subst (λ (w : Entry). stamp w ≤ stamp e) same (omega arith) | inr rest ↦ omega (arith, n.most y rest ya, ltb-false (stamp e) (stamp f) t) ];
    }

    at_rest : IsAllowed k s e → (o : Option Entry) → Finds es k s o → IsNewest (e ∷ es) k s (first_of_two e o)
    at_rest a None n = record {
      here = inl refl;
      allowed = a;
      most = λ y h ya. elim h [ inl same ↦ subst (λ (w : Entry). stamp w ≤ stamp e) same (omega arith) | inr rest ↦ absurd (n y rest ya) ];
    }
    at_rest a (Some f) n = at_first a f n (nat_lt (stamp e) (stamp f)) refl

    not_here : is_allowed k s e ≡ false → (y : Entry) → e ≡ y → IsAllowed k s y → ⊥
    not_here t y same a = absurd (cc (t, allowed_from k s e (subst (IsAllowed k s) (sym same) a)))

    at_test : (b : Bool) → is_allowed k s e ≡ b → (o : Option Entry) → Finds es k s o → Finds (e ∷ es) k s (cond b (Some (first_of_two e o)) o)
    at_test true t o n = at_rest (allowed_says k s e t) o n
    at_test false t None n = λ y h a. elim h [ inl same ↦ not_here t y same a | inr rest ↦ n y rest a ]
    at_test false t (Some f) n = record {
      here = inr n.here;
      allowed = n.allowed;
      most = λ y h ya. elim h [ inl same ↦ absurd (not_here t y same ya) | inr rest ↦ n.most y rest ya ];
    }
