-- The range of user keys of several tables.
use Rattle.std.specs.Prelude.{◌≡◌, List, ◌⊎◌}
use Rattle.lsm_codec.specs.Keys.{UserKey, UserLe}
use Rattle.lsm_codec.specs.Lists.{Has}
use Rattle.lsm_table.specs.Registry.{Table}
use Rattle.lsm_version.specs.Versions.{user_of}

-- one of the two keys, and at most both
abbrev pub IsLesser : UserKey → UserKey → UserKey → Type 0
IsLesser k a b = ((k ≡ a) × UserLe a b) ⊎ ((k ≡ b) × UserLe b a)

-- one of the two keys, and at least both
abbrev pub IsGreater : UserKey → UserKey → UserKey → Type 0
IsGreater k a b = ((k ≡ a) × UserLe b a) ⊎ ((k ≡ b) × UserLe a b)

-- the least of the key and the least user keys of the tables
pub record IsLowest (ts : List Table) (from low : UserKey) : Type 0 where
  pub below : UserLe low from
  pub each : (t : Table) → Has ts t → UserLe low (user_of t.smallest)
  pub met : (low ≡ from) ⊎ ((t : Table) × Has ts t × (user_of t.smallest ≡ low))

-- the greatest of the key and the greatest user keys of the tables
pub record IsHighest (ts : List Table) (to high : UserKey) : Type 0 where
  pub above : UserLe to high
  pub each : (t : Table) → Has ts t → UserLe (user_of t.largest) high
  pub met : (high ≡ to) ⊎ ((t : Table) × Has ts t × (user_of t.largest ≡ high))
