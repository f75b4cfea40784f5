-- The numbers of the files of a shape (this project's rule: no two files have one number).
use Rattle.std.specs.Prelude.{ℕ, ◌<◌, ◌≤◌, ◌==◌, cond, List, [], ◌∷◌, ◌++◌, map, Option, Some, None}
use Rattle.std.specs.List.{count_by}
use Rattle.lsm_manifest.specs.FileOrder.{TableFile}

abbrev pub file_numbers : List TableFile → List ℕ
file_numbers files = map (λ file. file.number) files

-- those of all levels
abbrev pub numbers_of : List (List TableFile) → List ℕ
numbers_of [] = []
numbers_of (files ∷ levels) = file_numbers files ++ numbers_of levels

-- how often the number stands in the list
abbrev pub times : ℕ → List ℕ → ℕ
times number numbers = count_by (λ n. n == number) numbers

-- each number stands at most once
abbrev pub AreDistinct : List ℕ → Type 0
AreDistinct numbers = (n : ℕ) → times n numbers ≤ 1

-- the least number that stands more than once
pub record IsLeastTwice (numbers : List ℕ) (number : ℕ) : Type 0 where
  pub twice : 2 ≤ times number numbers
  pub least : (n : ℕ) → n < number → times n numbers ≤ 1

-- ---- how the code finds it, in ascending numbers

abbrev pub first_twice : List ℕ → Option ℕ
first_twice [] = None
first_twice (a ∷ []) = None
first_twice (a ∷ b ∷ rest) = cond (a == b) (Some a) (first_twice (b ∷ rest))
