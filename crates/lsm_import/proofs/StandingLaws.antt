-- A database that stands as it is.
use Rattle.std.proofs.Common.{◌≡◌, ℕ, zero, suc, ◌+◌, ◌<◌, max, List, [], ◌∷◌, length, get_or, take}
use Rattle.std.proofs.Common.{refl, sym, subst, inl, inr, arith}
use Rattle.std.proofs.lemmas.List.{take_more}
use Rattle.std.specs.Prelude.{◌⊎◌}
use Rattle.lsm_codec.specs.Lists.{Has}
use Rattle.lsm_codec.proofs.CallerLemmas.{has_cases}
use Rattle.lsm_import.specs.Standing.{AreBelow}

pub below_more : (numbers : List ℕ) (i next after : ℕ) → i < length numbers
    → AreBelow (take i numbers) next → after ≡ max next (get_or numbers i 0 + 1)
    → AreBelow (take (i + 1) numbers) after
below_more numbers i next after lt below step =
    let x = get_or numbers i 0 in
    subst (λ (xs : List ℕ). AreBelow xs after) (sym (take_more numbers i 0 lt))
    (λ n h. each n (has_cases (take i numbers) (x ∷ []) n h))
  where
    each : (n : ℕ) → Has (take i numbers) n ⊎ Has (get_or numbers i 0 ∷ []) n → n < after
    each n (inl h) = (let b = below n h in omega arith)
    each n (inr (inl e)) = omega arith
    each n (inr (inr h)) = absurd h

pub has_got : (numbers : List ℕ) (i : ℕ) → i < length numbers → Has numbers (get_or numbers i 0)
has_got [] i lt = absurd (omega arith)
has_got (x ∷ xs) zero lt = inl refl
has_got (x ∷ xs) (suc i) lt = inr (has_got xs i (omega arith))
