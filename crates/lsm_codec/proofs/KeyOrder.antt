-- The order of internal keys and of entries is total, and strict between different keys.
use Rattle.std.proofs.Common.{◌≡◌, ℕ, refl, sym, ◌∙◌, ap, arith}
use Rattle.std.proofs.Common.{Ordering, Less, Equal, Greater}
use Rattle.std.specs.Cmp.Lexicographic.{slice_cmp}
use Rattle.std.specs.Cmp.{IsTotalOrder}
use Rattle.std.specs.Ordering.{nat_cmp, is_eq, ordering_reverse}
use Rattle.std.proofs.lemmas.Map.Text.{is_eq-slice_cmp}
use Rattle.std.proofs.lemmas.Cmp.{nat_list_cmp_total, nat_cmp_total, on_total, back_total, then_total, tied_itself, ranked}
use Rattle.lsm_codec.specs.declared.kind.Kind.{Kind}
use Rattle.lsm_codec.specs.Keys.{UserKey, InternalKey, packed_of, packed, then_by, key_cmp}
use Rattle.lsm_codec.proofs.Keys.{key_from_test}
use Rattle.lsm_codec.proofs.Newest.{kind_number_le, same_kind}

-- ---- the number of a sequence and a kind

pub packed_of-injective : (s t : ℕ) (a b : Kind) → packed_of s a ≡ packed_of t b → (s ≡ t) × (a ≡ b)
packed_of-injective s t a b same =
    (omega (arith, same, kind_number_le a, kind_number_le b), same_kind a b (omega (arith, same, kind_number_le a, kind_number_le b)))

pub key_is : (a b : InternalKey) → a.user ≡ b.user → packed a ≡ packed b → a ≡ b
key_is a b users same =
    let both = packed_of-injective a.seq b.seq a.kind b.kind same in
    λ i. record { user = users i; seq = both.0 i; kind = both.1 i }

-- ---- the order of user keys by its test

pub slice_cmp-Equal : (a b : UserKey) → slice_cmp nat_cmp a b ≡ Equal → a ≡ b
slice_cmp-Equal a b e = key_from_test a b (sym (is_eq-slice_cmp a b) ∙ ap is_eq e)

pub slice_cmp-same : (a b : UserKey) → a ≡ b → slice_cmp nat_cmp a b ≡ Equal
slice_cmp-same a b e = ap (slice_cmp nat_cmp a) (sym e) ∙ tied_itself nat_list_cmp_total a

-- ---- the order of internal keys

pub key_cmp_total : IsTotalOrder key_cmp
key_cmp_total = then_total (on_total (λ (k : InternalKey). k.user) nat_list_cmp_total) (back_total (on_total packed nat_cmp_total))

pub key_cmp-swapped : (a b : InternalKey) → key_cmp a b ≡ ordering_reverse (key_cmp b a)
key_cmp-swapped a b = key_cmp_total.antisymm a b

pub key_cmp_refl : (a : InternalKey) → key_cmp a a ≡ Equal
key_cmp_refl a = tied_itself key_cmp_total a

-- keys that the order does not tell apart are one key
pub key_cmp-Equal : (a b : InternalKey) → key_cmp a b ≡ Equal → a ≡ b
key_cmp-Equal a b e = at_users (slice_cmp nat_cmp a.user b.user) refl e
  where
    at_users : (o : Ordering) → slice_cmp nat_cmp a.user b.user ≡ o → then_by o (nat_cmp (packed b) (packed a)) ≡ Equal → a ≡ b
    at_users Less u e = absurd (cc e)
    at_users Greater u e = absurd (cc e)
    at_users Equal u e = key_is a b (slice_cmp-Equal a.user b.user u) (sym (ranked (packed b) (packed a) Equal (sym e)))

pub key_cmp-same : (a b : InternalKey) → a ≡ b → key_cmp a b ≡ Equal
key_cmp-same a b e = ap (key_cmp a) (sym e) ∙ key_cmp_refl a
