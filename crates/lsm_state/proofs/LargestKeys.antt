-- The greatest of keys.
use Rattle.std.proofs.Common.{◌≡◌, ℕ, ◌+◌, ◌<◌, ◌≤◌, true, List, [], ◌∷◌, ◌++◌, length, get_or, take, refl, sym, ◌∙◌, ap, subst, inl, inr}
use Rattle.std.proofs.Common.{Ordering, Less, Equal, Greater}
use Rattle.std.specs.Cmp.{IsTotalOrder}
use Rattle.std.specs.Ordering.{is_gt, ordering_reverse}
use Rattle.std.proofs.lemmas.Cmp.{nat_list_cmp_total, nat_cmp_total, on_total, back_total, then_total, tied_itself, upto}
use Rattle.std.proofs.lemmas.List.{take_all, take_more}
use Rattle.lsm_codec.specs.Keys.{user_part, packed_part}
use Rattle.lsm_codec.proofs.CallerLemmas.{has_cases, has_left, has_right}
use Rattle.lsm_table.specs.Registry.{Table}
use Rattle.lsm_picker.specs.Choice.{bytes_cmp}
use Rattle.lsm_state.specs.LargestKeys.{IsGreaterKey, IsHighestKey, IsUpTo}

bytes_total : IsTotalOrder bytes_cmp
bytes_total = then_total (on_total user_part nat_list_cmp_total) (back_total (on_total packed_part nat_cmp_total))

up_to_self : (a : List ℕ) → IsUpTo a a
up_to_self a = ap is_gt (tied_itself bytes_total a)

up_to_trans : (a b c : List ℕ) → IsUpTo a b → IsUpTo b c → IsUpTo a c
up_to_trans a b c h k = upto bytes_total a b c h k

pub up_to_back : (a b : List ℕ) → is_gt (bytes_cmp b a) ≡ true → IsUpTo a b
up_to_back a b h = go (bytes_cmp b a) h (bytes_total.antisymm a b)
  where
    go : (o : Ordering) → is_gt o ≡ true → bytes_cmp a b ≡ ordering_reverse o → IsUpTo a b
    go Less g e = absurd (cc g)
    go Equal g e = absurd (cc g)
    go Greater g e = ap is_gt e

first_up : (k a b : List ℕ) → IsGreaterKey k a b → IsUpTo a k
first_up k a b (inl e) = subst (IsUpTo a) (sym e.0) (up_to_self a)
first_up k a b (inr e) = subst (IsUpTo a) (sym e.0) e.1

second_up : (k a b : List ℕ) → IsGreaterKey k a b → IsUpTo b k
second_up k a b (inl e) = subst (IsUpTo b) (sym e.0) e.1
second_up k a b (inr e) = subst (IsUpTo b) (sym e.0) (up_to_self b)

-- ---- of several tables

pub highest_start : (ts : List Table) (key : List ℕ) → IsHighestKey (take 0 ts) key key
highest_start ts key = record { above = up_to_self key; each = λ t h. absurd h; met = inl refl }

highest_push : (ts : List Table) (x : Table) (key highest new : List ℕ) → IsHighestKey ts key highest → IsGreaterKey new highest x.largest → IsHighestKey (ts ++ x ∷ []) key new
highest_push ts x key highest new l s = record {
  above = up_to_trans key highest new l.above (first_up new highest x.largest s);
  each = λ t h. elim (has_cases ts (x ∷ []) t h) [
    | inl old ↦ up_to_trans t.largest highest new (l.each t old) (first_up new highest x.largest s)
    | inr own ↦ elim own [ inl e ↦ subst (λ (y : Table). IsUpTo y.largest new) e (second_up new highest x.largest s) | inr none ↦ absurd none ]
  ];
  met = elim s [
    | inl e ↦ elim l.met [ inl f ↦ inl (e.0 ∙ f) | inr w ↦ inr (w.0, has_left ts (x ∷ []) w.0 w.1, w.2 ∙ sym e.0) ]
    | inr e ↦ inr (x, has_right ts (x ∷ []) x (inl refl), sym e.0)
  ];
}

pub highest_more : (ts : List Table) (i : ℕ) (x : Table) (key highest new own : List ℕ) → i < length ts → x ≡ get_or ts i x → own ≡ x.largest → IsHighestKey (take i ts) key highest
    → IsGreaterKey new highest own → IsHighestKey (take (i + 1) ts) key new
highest_more ts i x key highest new own lt at is l s =
    subst (λ (us : List Table). IsHighestKey us key new) (ap (λ (u : Table). take i ts ++ u ∷ []) at ∙ sym (take_more ts i x lt))
    (highest_push (take i ts) x key highest new l (subst (IsGreaterKey new highest) is s))

pub highest_done : (ts : List Table) (i : ℕ) (key highest : List ℕ) → length ts ≤ i → IsHighestKey (take i ts) key highest → IsHighestKey ts key highest
highest_done ts i key highest past l = subst (λ (us : List Table). IsHighestKey us key highest) (take_all i ts past) l
