-- The pairs that benchmarks bring in (this project's rule; the keys are those of LevelDB's
-- `benchmarks/db_bench.cc`).
use Rattle.std.specs.Prelude.{◌≡◌, ℕ, zero, suc, ◌+◌, ◌/◌, ◌%◌, ◌<◌, ◌≤◌, ⊤, Bool, IsTrue, List, []}
use Rattle.std.specs.Prelude.{◌∷◌, ◌++◌, length, Some}
use Rattle.lsm_batch.specs.Limits.{most_value}
use Rattle.lsm_batch.specs.declared.write.Write.{Write}

-- the last decimal digits of a number, so many
abbrev pub digits : ℕ → ℕ → List ℕ
digits zero n = []
digits (suc w) n = digits w (n / 10) ++ ((48 + n % 10) ∷ [])

-- The key of this number gets a value of so many bytes, where a batch may have one.
pub record IsPairOf (size number : ℕ) (w : Write) : Type 0 where
  pub key : w.key ≡ digits 16 number
  pub value : List ℕ
  pub its : w.value ≡ Some value
  pub length_is : size ≤ most_value → length value ≡ size

-- It is a pair of a number below that of all keys, and of this one where keys ascend.
pub record IsPairAt (keys size : ℕ) (ascends : Bool) (place : ℕ) (w : Write) : Type 0 where
  pub number : ℕ
  pub below : number < keys
  pub ascending : IsTrue ascends → number ≡ place
  pub pair : IsPairOf size number w

-- pairs one after another, the first of which has this place
abbrev pub ArePairs : (keys size : ℕ) → Bool → ℕ → List Write → Type 0
ArePairs keys size ascends place [] = ⊤
ArePairs keys size ascends place (w ∷ ws) =
    IsPairAt keys size ascends place w × ArePairs keys size ascends (suc place) ws
