-- Elements of lists by their indices.
use Rattle.std.proofs.Common.{◌≡◌, ℕ, zero, suc, ◌+◌, ◌<◌, length, get_or, take, List, [], ◌∷◌, sym, ◌∙◌, subst, inl, inr, arith}
use Rattle.std.proofs.lemmas.List.{take_more}
use Rattle.lsm_codec.specs.Lists.{Has}
use Rattle.lsm_codec.proofs.CallerLemmas.{has_cases}

pub has_at : {X : Type 0} (xs : List X) (i : ℕ) (x : X) → i < length xs → x ≡ get_or xs i x → Has xs x
has_at [] i x lt is = absurd (omega arith)
has_at (y ∷ xs) zero x lt is = inl (sym is)
has_at (y ∷ xs) (suc i) x lt is = inr (has_at xs i x (omega arith) is)

-- what holds of each element before an index, and of the one there
pub each_more : {X : Type 0} (P : X → Type 0) (xs : List X) (i : ℕ) (x : X) → i < length xs → x ≡ get_or xs i x → ((y : X) → Has (take i xs) y → P y) → P x
    → (y : X) → Has (take (i + 1) xs) y → P y
each_more P xs i x lt is before here y h = elim (has_cases (take i xs) (get_or xs i x ∷ []) y (subst (λ zs. Has zs y) (take_more xs i x lt) h)) [
  | inl old ↦ before y old
  | inr new ↦ elim new [ inl e ↦ subst P (is ∙ e) here | inr none ↦ absurd none ]
]
