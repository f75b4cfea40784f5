-- The files that stand, by number.
use Rattle.std.specs.Prelude.{◌≡◌, ℕ, Option, Some}
use Rattle.std.specs.Option.{option_map}
use Rattle.std.specs.Ordering.{nat_cmp}
use Rattle.std.specs.BTreeMap as tree
use Rattle.lsm_manifest.specs.declared.parts.AddedFile.{AddedFile}
use Rattle.lsm_manifest.specs.declared.standing.Standing.{Standing}

-- the file of this number
abbrev pub file_at : Standing → ℕ → Option AddedFile
file_at s n = option_map (λ a. a.now) (tree.get nat_cmp s.files n)

-- the files of f are those of which P holds
pub record Tracks (P : AddedFile → Type 0) (f : ℕ → Option AddedFile) : Type 0 where
  pub found : (n : ℕ) (a : AddedFile) → f n ≡ Some a → (a.file.number ≡ n) × P a
  pub all : (a : AddedFile) → P a → f a.file.number ≡ Some a
