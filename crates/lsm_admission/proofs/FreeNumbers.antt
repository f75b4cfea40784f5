-- The next number.
use Rattle.std.proofs.Common.{◌≡◌, ℕ, zero, suc, ◌+◌, ◌<◌, ◌≤◌, max, List, [], ◌∷◌, ◌++◌, length}
use Rattle.std.proofs.Common.{get_or, refl, inl, inr, arith}
use Rattle.std.specs.Prelude.{◌⊎◌}
use Rattle.lsm_codec.specs.Lists.{Has}
use Rattle.lsm_codec.proofs.CallerLemmas.{has_cases, has_left, has_right}
use Rattle.lsm_journal.specs.Finding.{IsFree, IsLeastFree}

pub free_none : (from : ℕ) → IsLeastFree from [] from
free_none from = ((omega arith, λ m h. absurd h), λ m f. f.0)

pub free_more : (from next number : ℕ) (xs : List ℕ) → IsLeastFree from xs next
    → IsLeastFree from (xs ++ number ∷ []) (max next (number + 1))
free_more from next number xs l = (
  (bound, λ m h. above m (has_cases xs (number ∷ []) m h)),
  λ m f.
      least m f,
)
  where
    bound : from ≤ max next (number + 1)
    bound = (let a = l.0.0 in omega arith)

    above : (m : ℕ) → Has xs m ⊎ Has (number ∷ []) m → m < max next (number + 1)
    above m (inl h) = (let a = l.0.1 m h in omega arith)
    above m (inr (inl e)) = (let a : number ≡ m = e in omega arith)
    above m (inr (inr h)) = absurd h

    least : (m : ℕ) → IsFree from (xs ++ number ∷ []) m → max next (number + 1) ≤ m
    least m f =
        let a = f.1 number (has_right xs (number ∷ []) number (inl refl)) in
        let b = l.1 m (f.0, λ k h. f.1 k (has_left xs (number ∷ []) k h)) in
        omega arith

pub at_has : (xs : List ℕ) (i : ℕ) → i < length xs → Has xs (get_or xs i 0)
at_has [] i lt = absurd (omega arith)
at_has (x ∷ xs) zero lt = inl refl
at_has (x ∷ xs) (suc i) lt = inr (at_has xs i (omega arith))
