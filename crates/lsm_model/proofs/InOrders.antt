-- Entries of two ranges that have no internal key in common: all of one stand before all of the
-- other.
use Rattle.std.proofs.Common.{◌≡◌, ◌≤◌, arith, true, false, List, [], ◌∷◌, ◌++◌, refl, sym, ◌∙◌, ap, subst, inl, inr}
use Rattle.std.specs.Prelude.{◌⊎◌}
use Rattle.std.proofs.lemmas.Bool.{cases_Bool}
use Rattle.lsm_codec.specs.Entries.{Entry, internal_key, stamp}
use Rattle.lsm_codec.specs.Keys.{InternalKey}
use Rattle.lsm_codec.specs.Lists.{Has}
use Rattle.lsm_model.specs.Checking.{IsRangeOf}
use Rattle.lsm_model.specs.Files.{Before}
use Rattle.lsm_model.specs.Merging.{goes_first}
use Rattle.lsm_model.specs.Ranges.{Range, KeyLe, key_le, MeetInKeys}
use Rattle.lsm_model.specs.Streams.{IsAscending}
use Rattle.lsm_model.proofs.Order.{first_from, first_trans, not_first_says, before_first, true_or_not}

pub first_is_le : (x y : Entry) → goes_first x y ≡ key_le (internal_key x) (internal_key y)
unfolding goes_first key_le
first_is_le x y = refl

pub first_to : (e : Entry) (rest : List Entry) → IsAscending (e ∷ rest) → (x : Entry) → Has (e ∷ rest) x → goes_first e x ≡ true
first_to e rest up x (inl s) = first_from e x (inl (ap (λ (y : Entry). y.user) s, same_le))
  where
    same_le : stamp x ≤ stamp e
    same_le = (let q = ap stamp s in omega arith)
first_to e rest up x (inr h) = before_first e x (up.0 x h)

has_end : (front : List Entry) (z : Entry) → Has (front ++ z ∷ []) z
has_end [] z = inl refl
has_end (f ∷ front) z = inr (has_end front z)

pub to_last : (front : List Entry) (z : Entry) → IsAscending (front ++ z ∷ []) → (x : Entry) → Has (front ++ z ∷ []) x → goes_first x z ≡ true
to_last [] z up x h = elim h [ inl s ↦ subst (λ (y : Entry). goes_first y z ≡ true) s (first_to z [] up z (inl refl)) | inr n ↦ absurd n ]
to_last (f ∷ front) z up x (inl s) = subst (λ (y : Entry). goes_first y z ≡ true) s (before_first f z (up.0 z (has_end front z)))
to_last (f ∷ front) z up x (inr h) = to_last front z up.1 x h

-- where the first of the ones may not stand before the last of the others, all others stand before
-- all ones
behind : (es fs : List Entry) (r s : Range) (a : IsRangeOf es r) (b : IsRangeOf fs s) → goes_first a.first.0 b.last.1 ≡ false → (y x : Entry) → Has fs y → Has es x → Before y x
behind es fs r s a b late y x hy hx = not_first_says x y (true_or_not (goes_first x y) (λ h.
    absurd (cc (first_trans e x z early (first_trans x y z h last), late))))
  where
    e : Entry
    e = a.first.0

    z : Entry
    z = b.last.1

    early : goes_first e x ≡ true
    early = first_to e a.first.1 (subst IsAscending a.first.2 a.ascending) x (subst (λ (l : List Entry). Has l x) a.first.2 hx)

    last : goes_first y z ≡ true
    last = to_last b.last.0 z (subst IsAscending b.last.2 b.ascending) y (subst (λ (l : List Entry). Has l y) b.last.2 hy)

key_meet : (e z : Entry) (k l : InternalKey) → goes_first e z ≡ true → internal_key e ≡ k → internal_key z ≡ l → KeyLe k l
key_meet e z k l h a b = subst (λ (m : InternalKey). KeyLe m l) a (subst (λ (m : InternalKey). KeyLe (internal_key e) m) b (sym (first_is_le e z) ∙ h))

pub entries_in_order : (es fs : List Entry) (r s : Range) → IsRangeOf es r → IsRangeOf fs s → (MeetInKeys r s → ⊥)
    → ((x y : Entry) → Has es x → Has fs y → Before x y) ⊎ ((y x : Entry) → Has fs y → Has es x → Before y x)
entries_in_order es fs r s a b none = elim (cases_Bool (goes_first a.first.0 b.last.1)) [
  | inl over ↦ elim (cases_Bool (goes_first b.first.0 a.last.1)) [
    | inl under ↦ absurd (none (key_meet a.first.0 b.last.1 r.smallest s.largest over a.first.3 b.last.3, key_meet b.first.0 a.last.1 s.smallest r.largest under b.first.3 a.last.3))
    | inr clear ↦ inl (λ x y hx hy. behind fs es s r b a clear x y hx hy)
  ]
  | inr clear ↦ inr (λ y x hy hx. behind es fs r s a b clear y x hy hx)
]
