-- Numbers in order.
use Rattle.std.specs.Prelude.{◌≡◌, ℕ, List, Result, Ok, Err, IfOk}
use Rattle.std.specs.List.Sorted.{IsStrictlyIncreasing}

-- what a call answers is in order where it is a list that is
pub ascending_as : {T E : Type 0} (items : T → List ℕ) (r : Result T E) (xs : List ℕ) → IfOk r (λ v. items v ≡ xs) → IsStrictlyIncreasing xs → IfOk r (λ v. IsStrictlyIncreasing (items v))
ascending_as items (Ok v) xs e h = rw e h
ascending_as items (Err e) xs p h = tt
