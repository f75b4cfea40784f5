-- Lines that are passed over (this project's rule).
use Rattle.std.specs.Prelude.{◌≡◌, ◌⊎◌, ℕ, List, length, Option}
use Rattle.std.specs.Io.KnownBytes.{IsAtEnd}
use Rattle.lsm_lines.specs.Gathering.{TakesLines}

-- So many lines were taken, the first of what was left.
abbrev pub TakesCount : ℕ → Option (List ℕ) → Option (List ℕ) → Type 0
TakesCount n old new = (lines : List (List ℕ)) × (length lines ≡ n) × TakesLines lines old new

-- So many lines were passed over, or all, which are fewer, and nothing is left.
abbrev pub PassesLines : ℕ → Option (List ℕ) → Option (List ℕ) → Type 0
PassesLines n old new = TakesCount n old new
    ⊎ ((less : ℕ) × (end : Option (List ℕ)) × TakesCount less old end × IsAtEnd end × IsAtEnd new)
