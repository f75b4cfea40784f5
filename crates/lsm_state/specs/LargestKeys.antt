-- The greatest of keys, as the code finds it.
use Rattle.std.specs.Prelude.{◌≡◌, false, List, ◌⊎◌}
use Rattle.std.specs.Prelude.{ℕ}
use Rattle.std.specs.Ordering.{is_gt}
use Rattle.lsm_codec.specs.Lists.{Has}
use Rattle.lsm_table.specs.Registry.{Table}
use Rattle.lsm_picker.specs.Choice.{bytes_cmp}

-- not greater than
abbrev pub IsUpTo : List ℕ → List ℕ → Type 0
IsUpTo a b = is_gt (bytes_cmp a b) ≡ false

-- one of the two keys, and at least both
abbrev pub IsGreaterKey : List ℕ → List ℕ → List ℕ → Type 0
IsGreaterKey k a b = ((k ≡ a) × IsUpTo b a) ⊎ ((k ≡ b) × IsUpTo a b)

-- the greatest of the key and the largest keys of the tables
pub record IsHighestKey (ts : List Table) (key highest : List ℕ) : Type 0 where
  pub above : IsUpTo key highest
  pub each : (t : Table) → Has ts t → IsUpTo t.largest highest
  pub met : (highest ≡ key) ⊎ ((t : Table) × Has ts t × (t.largest ≡ highest))
