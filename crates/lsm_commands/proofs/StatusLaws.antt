-- What the exit status says of a fault.
use Rattle.std.proofs.Common.{◌≡◌, ◌≢◌, ℕ, OnErr, OnOk}
use Rattle.std.specs.Prelude.{Result, Ok, Err}

-- what a fault leaves, where the status is not 0
pub left_by : {T F : Type 0} (r : Result T F) (status : ℕ) (Left : Type 0) → OnOk r (status ≡ 0) → OnErr r (status ≡ 1) → OnErr r Left → status ≢ 0 → (status ≡ 1) × Left
left_by (Ok x) status Left ok err left other = absurd (other ok)
left_by (Err e) status Left ok err left other = (err, left)

-- a status of 1 is not 0
pub not_done : (status : ℕ) → status ≡ 1 → status ≢ 0
not_done status one = λ zero. absurd cc
