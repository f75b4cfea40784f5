-- The order of keys, and their equality test.
use Rattle.std.proofs.Common.{◌≡◌, true, false, refl, sym, ◌∙◌, ap, inl, inr}
use Rattle.std.specs.Prelude.{◌⊎◌}
use Rattle.std.proofs.Common.{Ordering, Less, Equal, Greater}
use Rattle.std.specs.Cmp.Lexicographic.{slice_cmp}
use Rattle.std.specs.Ordering.{nat_cmp, is_le, is_gt, is_eq, ordering_reverse}
use Rattle.std.proofs.lemmas.Map.Text.{is_eq-slice_cmp}
use Rattle.std.specs.Str.{bytes_eq}
use Rattle.std.proofs.lemmas.Cmp.{upto, nat_list_cmp_total}
use Rattle.std.proofs.lemmas.Slice.Eq.{bytes_eq-Decides}
use Rattle.lsm_codec.specs.Keys.{UserKey, UserLe, user_le}

same_key : (a b : UserKey) → bytes_eq a b ≡ true → a ≡ b
same_key a b h = (bytes_eq-Decides a b).0 h

pub key_from_test : (a b : UserKey) → bytes_eq a b ≡ true → a ≡ b
key_from_test a b h = same_key a b h

pub test_from_key : (a b : UserKey) → a ≡ b → bytes_eq a b ≡ true
test_from_key a b h = (bytes_eq-Decides a b).1 h

gt_of_le : (o : Ordering) → is_le o ≡ true → is_gt o ≡ false
gt_of_le Less h = refl
gt_of_le Equal h = refl
gt_of_le Greater h = absurd (cc h)

le_of_gt : (o : Ordering) → is_gt o ≡ false → is_le o ≡ true
le_of_gt Less h = refl
le_of_gt Equal h = refl
le_of_gt Greater h = absurd (cc h)

pub user_le_trans : (a b c : UserKey) → UserLe a b → UserLe b c → UserLe a c
unfolding user_le
user_le_trans a b c h k = le_of_gt (slice_cmp nat_cmp a c) (upto nat_list_cmp_total a b c (gt_of_le (slice_cmp nat_cmp a b) h) (gt_of_le (slice_cmp nat_cmp b c) k))

either_le : (o p : Ordering) → o ≡ ordering_reverse p → (is_le o ≡ true) ⊎ (is_le p ≡ true)
either_le Less p h = inl refl
either_le Equal p h = inl refl
either_le Greater Less h = inr refl
either_le Greater Equal h = absurd (cc h)
either_le Greater Greater h = absurd (cc h)

pub user_le_total : (a b : UserKey) → UserLe a b ⊎ UserLe b a
unfolding user_le
user_le_total a b = either_le (slice_cmp nat_cmp a b) (slice_cmp nat_cmp b a) (nat_list_cmp_total.antisymm a b)

both_le : (o p : Ordering) → o ≡ ordering_reverse p → is_le o ≡ true → is_le p ≡ true → o ≡ Equal
both_le Equal p h a b = refl
both_le Less Less h a b = absurd (cc h)
both_le Less Equal h a b = absurd (cc h)
both_le Less Greater h a b = absurd (cc b)
both_le Greater p h a b = absurd (cc a)

pub user_le_antisym : (a b : UserKey) → UserLe a b → UserLe b a → a ≡ b
unfolding user_le
user_le_antisym a b h k =
    let e : slice_cmp nat_cmp a b ≡ Equal = both_le (slice_cmp nat_cmp a b) (slice_cmp nat_cmp b a) (nat_list_cmp_total.antisymm a b) h k in
    key_from_test a b (sym (is_eq-slice_cmp a b) ∙ ap is_eq e)

pub user_le_refl : (a : UserKey) → UserLe a a
user_le_refl a = elim (user_le_total a a) [ inl h ↦ h | inr h ↦ h ]
