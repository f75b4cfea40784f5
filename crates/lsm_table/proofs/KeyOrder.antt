-- The order of internal keys is total.
use Rattle.std.proofs.Common.{◌≡◌, true, false, refl, sym, ◌∙◌, Ordering, Less, Equal, Greater}
use Rattle.std.specs.Cmp.{IsTotalOrder}
use Rattle.std.specs.Ordering.{is_lt, is_le, ordering_reverse}
use Rattle.std.proofs.lemmas.Cmp.{nat_list_cmp_total, nat_cmp_total, on_total, then_total, back_total}
use Rattle.lsm_codec.specs.Keys.{InternalKey, packed, key_cmp}

pub key_cmp_total : IsTotalOrder key_cmp
key_cmp_total = then_total (on_total (λ (k : InternalKey). k.user) nat_list_cmp_total) (back_total (on_total packed nat_cmp_total))

le_less : (a b c : InternalKey) (o : Ordering) → o ≡ key_cmp a b → is_le o ≡ true → key_cmp b c ≡ Less → key_cmp a c ≡ Less
le_less a b c Less e h k = key_cmp_total.trans a b c (sym e) k
le_less a b c Equal e h k = key_cmp_total.congr a b c (sym e) ∙ k
le_less a b c Greater e h k = absurd cc

-- what does not stand after a key stands before all that this key stands before
pub le_less_trans : (a b c : InternalKey) → is_le (key_cmp a b) ≡ true → key_cmp b c ≡ Less → key_cmp a c ≡ Less
le_less_trans a b c h k = le_less a b c (key_cmp a b) refl h k

reverse_le : (o p : Ordering) → o ≡ ordering_reverse p → is_lt p ≡ false → is_le o ≡ true
reverse_le Less p e h = refl
reverse_le Equal p e h = refl
reverse_le Greater Less e h = absurd cc
reverse_le Greater Equal e h = absurd cc
reverse_le Greater Greater e h = absurd cc

-- of two keys, if the first does not stand before the second, the second does not stand after the
-- first
pub not_less : (a b : InternalKey) → is_lt (key_cmp a b) ≡ false → is_le (key_cmp b a) ≡ true
not_less a b h = reverse_le (key_cmp b a) (key_cmp a b) (key_cmp_total.antisymm b a) h

pub is_less : (o : Ordering) → is_lt o ≡ true → o ≡ Less
is_less Less e = refl
is_less Equal e = absurd cc
is_less Greater e = absurd cc

-- a key does not stand before itself
pub self_le : (a : InternalKey) → is_le (key_cmp a a) ≡ true
self_le a = le_self (key_cmp a a) (key_cmp_total.antisymm a a)
  where
    le_self : (o : Ordering) → o ≡ ordering_reverse o → is_le o ≡ true
    le_self Less e = refl
    le_self Equal e = refl
    le_self Greater e = absurd cc
