-- How an entry comes after the one before, of which the user key was compared once.
use Rattle.std.proofs.Common.{◌≡◌, ℕ, Bool, true, false, List, [], ◌∷◌, Option, Some, None, Ordering, Less, Equal, Greater, refl, sym, ap, ◌∙◌}
use Rattle.std.specs.Prelude.{◌&&◌, nat_le}
use Rattle.std.specs.Ordering.{is_eq, is_lt, nat_cmp, ordering_then}
use Rattle.std.specs.Cmp.Lexicographic.{slice_cmp}
use Rattle.std.proofs.lemmas.Map.Text.{is_eq-slice_cmp}
use Rattle.lsm_codec.specs.declared.kind.Kind.{Kind}
use Rattle.lsm_codec.specs.Keys.{InternalKey, UserKey, packed, packed_of, then_by}
use Rattle.lsm_codec.specs.Entries.{internal_key}
use Rattle.lsm_block.specs.Block.{entry_of}
use Rattle.lsm_model.specs.Merging.{Placed}
use Rattle.lsm_model.specs.Streams.{is_shadowed}
use Rattle.lsm_iterators.specs.Heads.{first_of, key_in}
use Rattle.lsm_iterators.specs.Walks.{order_first, passed_by}
use Rattle.lsm_merge.specs.Dropping.{follows}
use Rattle.lsm_merge.specs.Remembered.{entry_passed, order_to}

abbrev follows_in : Option Ordering → ℕ → Kind → InternalKey → Bool
follows_in None seq kind key = true
follows_in (Some o) seq kind key = is_lt (then_by o (nat_cmp (packed key) (packed_of seq kind)))

follows_at : (user : Option UserKey) (seq : ℕ) (kind : Kind) (key : InternalKey) → follows_in (order_to user key.user) seq kind key ≡ follows (entry_passed user seq kind) key
follows_at None seq kind key = refl
follows_at (Some own) seq kind key = refl

pub follows_none : (seq : ℕ) (kind : Kind) (key : InternalKey) (user : Option UserKey) → None ≡ order_to user key.user → true ≡ follows (entry_passed user seq kind) key
follows_none seq kind key user e = ap (λ (o : Option Ordering). follows_in o seq kind key) e ∙ follows_at user seq kind key

then_is : (a b : Ordering) → ordering_then a b ≡ then_by a b
then_is Less b = refl
then_is Equal b = refl
then_is Greater b = refl

pub follows_some : (o : Ordering) (seq : ℕ) (kind : Kind) (key : InternalKey) (user : Option UserKey) → Some o ≡ order_to user key.user
    → is_lt (ordering_then o (nat_cmp (packed key) (packed_of seq kind))) ≡ follows (entry_passed user seq kind) key
follows_some o seq kind key user e =
    ap is_lt (then_is o (nat_cmp (packed key) (packed_of seq kind))) ∙ ap (λ (x : Option Ordering). follows_in x seq kind key) e ∙ follows_at user seq kind key

abbrev shadows_in : Option Ordering → ℕ → ℕ → Bool
shadows_in None seq floor = false
shadows_in (Some o) seq floor = is_eq o && nat_le seq floor

shadows_at : (floor : ℕ) (user : Option UserKey) (seq : ℕ) (kind : Kind) (key : InternalKey) → shadows_in (order_to user key.user) seq floor ≡ is_shadowed floor (entry_passed user seq kind) (entry_of key [])
shadows_at floor None seq kind key = refl
shadows_at floor (Some own) seq kind key = ap (λ (b : Bool). b && nat_le seq floor) (is_eq-slice_cmp own key.user)

pub shadows_none : (floor seq : ℕ) (user : Option UserKey) (kind : Kind) (key : InternalKey) → None ≡ order_to user key.user → false ≡ is_shadowed floor (entry_passed user seq kind) (entry_of key [])
shadows_none floor seq user kind key e = ap (λ (o : Option Ordering). shadows_in o seq floor) e ∙ shadows_at floor user seq kind key

pub shadows_some : (o : Ordering) (floor seq : ℕ) (user : Option UserKey) (kind : Kind) (key : InternalKey) → Some o ≡ order_to user key.user
    → (is_eq o && nat_le seq floor) ≡ is_shadowed floor (entry_passed user seq kind) (entry_of key [])
shadows_some o floor seq user kind key e = ap (λ (x : Option Ordering). shadows_in x seq floor) e ∙ shadows_at floor user seq kind key

-- the order that a walk tells is that of the user key of the first entry
pub order_at : (passed : Option UserKey) (ps : List Placed) (key : InternalKey) → Some key ≡ key_in (first_of ps) → order_first passed (first_of ps) ≡ order_to passed key.user
order_at None ps key e = refl
order_at (Some own) [] key e = absurd cc
order_at (Some own) (p ∷ ps) key e =
    let same : key ≡ record { user = p.1.user; seq = p.1.seq; kind = p.1.kind } = cc e in
    ap (λ (k : InternalKey). Some (slice_cmp nat_cmp own k.user)) (sym same)

-- what is remembered of an entry that was passed
pub passed_entry : (passed : Option UserKey) (ps : List Placed) (key own : InternalKey) → Some key ≡ key_in (first_of ps) → Some own ≡ key_in (first_of ps)
    → entry_passed (passed_by passed (first_of ps)) own.seq own.kind ≡ Some (entry_of key [])
passed_entry passed [] key own e f = absurd cc
passed_entry passed (p ∷ ps) key own e f =
    let x : own ≡ internal_key p.1 = cc f in
    let y : key ≡ internal_key p.1 = cc e in
    ap (λ (k : InternalKey). Some (record { user = p.1.user; seq = k.seq; kind = k.kind; value = [] })) x ∙ sym (ap (λ (k : InternalKey). Some (entry_of k [])) y)
