-- What is read up to a limit, and stays below it, is all there is.
use Rattle.std.proofs.Common.{◌≡◌, ℕ, ◌+◌, ◌≤◌, List, [], ◌++◌, length, take, Option, Some, None, ap, ◌∙◌, arith, inl, inr}
use Rattle.std.specs.Prelude.{IfSome}
use Rattle.std.specs.Option.{option_map}
use Rattle.std.proofs.lemmas.List.{take_all, length-take-le}
use Rattle.std.proofs.lemmas.Bool.{cases_lt}

pub whole_read : (most : ℕ) (known : Option (List ℕ)) (front bytes : List ℕ) → front ≡ []
    → IfSome (option_map (take (most + 1)) known) (λ xs. bytes ≡ front ++ xs) → length bytes ≤ most → IfSome known (λ text. bytes ≡ text)
whole_read most None front bytes e h short = tt
whole_read most (Some text) front bytes e h short =
    let read : bytes ≡ take (most + 1) text = h ∙ ap (λ (xs : List ℕ). xs ++ take (most + 1) text) e in
    elim (cases_lt most (length text)) [
      | inl long ↦ absurd (omega (arith, ap length read, length-take-le (most + 1) text (omega arith)))
      | inr fits ↦ read ∙ take_all (most + 1) text (omega arith)
    ]
