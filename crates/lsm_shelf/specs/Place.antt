-- Where the tables and the manifest of a database lie (this project's rule).
use Rattle.std.specs.Prelude.{◌≡◌, ℕ, List}
use Rattle.boxcar.specs.Table.{Shelves}

-- Forks share it. A folder in memory is named by the vector of its files' bytes; a folder of the
-- system by its path, and by the vector of the marks that were handed out since it was opened
pub data Place : Type 0 where
  in_memory : (images : Shelves) → Place
  at_path : (path : List ℕ) (marks : Shelves) → Place

-- the folder of this path, opened once
abbrev pub IsAtPath : List ℕ → Place → Type 0
IsAtPath path (in_memory images) = ⊥
IsAtPath path (at_path p marks) = p ≡ path
