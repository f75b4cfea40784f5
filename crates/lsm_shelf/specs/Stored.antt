-- Which images lie on a shelf (this project's rule).
use Rattle.std.specs.Prelude.{◌≡◌, ℕ, List}

-- A receipt of these contents has this number and stands for this image: the shelf gave it for that
-- number.
abbrev pub Stored : (Receipt : Type 0) → (Receipt → Type 0) → (Receipt → ℕ) → (Receipt → List ℕ) → ℕ
    → List ℕ → Type 0
Stored Receipt Here number_of image_of number image =
    (r : Receipt) × Here r × (number_of r ≡ number) × (image_of r ≡ image)
