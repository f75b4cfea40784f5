-- What a read relies on in levels, and how it looks for a user key (LevelDB's `doc/impl.md`,
-- "Levels").
use Rattle.std.specs.Prelude.{◌≡◌, ℕ, ◌<◌, ◌≤◌, Bool, true, false, ◌&&◌, List, length, Option, Some}
use Rattle.std.specs.Prelude.{None, nat_lt, slice_index_or}
use Rattle.std.specs.List.Sorted.{IsSortedBy}
use Rattle.lsm_codec.specs.Lists.{Has}
use Rattle.lsm_codec.specs.Keys.{UserKey, UserLe, user_le}
use Rattle.lsm_table.specs.Registry.{Table}
use Rattle.lsm_model.specs.Files.{IsLawful}
use Rattle.lsm_version.specs.Versions.{AreInOrder, IsWhole, files_from, files_of, level_in}
use Rattle.lsm_version.specs.Versions.{stands_before, user_of}

-- ---- what holds of a part of a version

-- the tables of one level
pub record IsSoundLevel (level : ℕ) (ts : List Table) : Type 0 where
  pub lawful : IsLawful (files_of level ts)
  pub whole : (t : Table) → Has ts t → IsWhole t
  pub order : IsSortedBy stands_before ts

-- the levels from this one on
pub record AreSound (level : ℕ) (levels : List (List Table)) : Type 0 where
  pub lawful : IsLawful (files_from level levels)
  pub whole : (n : ℕ) (t : Table) → Has (level_in levels n) t → IsWhole t
  pub order : AreInOrder levels

-- ---- ranges of user keys

-- the least user key of the table is at most this one
abbrev pub begins_by : Table → UserKey → Bool
begins_by t k = user_le (user_of t.smallest) k

-- the greatest user key of the table is at least this one
abbrev pub reaches : Table → UserKey → Bool
reaches t k = user_le k (user_of t.largest)

-- the table's range of user keys has this one
abbrev pub covers : Table → UserKey → Bool
covers t k = begins_by t k && reaches t k

-- Neither the least nor the greatest user key of a later table is less.
pub record IsRising (ts : List Table) : Type 0 where
  pub lows : (i j : ℕ) (d : Table) → i ≤ j → j < length ts
      → UserLe (user_of (slice_index_or ts i d).smallest) (user_of (slice_index_or ts j d).smallest)
  pub highs : (i j : ℕ) (d : Table) → i ≤ j → j < length ts
      → UserLe (user_of (slice_index_or ts i d).largest) (user_of (slice_index_or ts j d).largest)

-- just the tables from the n-th on reach the user key
pub record IsFirstReaching (k : UserKey) (ts : List Table) (n : ℕ) : Type 0 where
  pub before : (i : ℕ) (d : Table) → i < n → reaches (slice_index_or ts i d) k ≡ false
  pub after : (i : ℕ) (d : Table) → n ≤ i → i < length ts → reaches (slice_index_or ts i d) k ≡ true

-- ---- by number

-- less than the bound, if there is one
abbrev pub is_below : Option ℕ → ℕ → Bool
is_below None n = true
is_below (Some bound) n = nat_lt n bound

-- the table's range has the user key, and its number is less than the bound
abbrev pub is_candidate : UserKey → Option ℕ → Table → Bool
is_candidate k bound t = is_below bound t.number && covers t k

-- the table of the greatest number of those
pub record IsYoungest (k : UserKey) (bound : Option ℕ) (ts : List Table) (t : Table) : Type 0 where
  pub here : Has ts t
  pub candidate : is_candidate k bound t ≡ true
  pub most : (u : Table) → Has ts u → is_candidate k bound u ≡ true → u.number ≤ t.number

-- there is none of those
abbrev pub HasNoCandidate : UserKey → Option ℕ → List Table → Type 0
HasNoCandidate k bound ts = (u : Table) → Has ts u → is_candidate k bound u ≡ false
