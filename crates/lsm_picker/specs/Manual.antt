-- What a compaction of a range of keys has to clear (LevelDB's `CompactRange`).
use Rattle.std.specs.Prelude.{◌≡◌, ℕ, ◌<◌, ◌≤◌, ◌⊎◌, min, [], Option, Some, None, slice_get}
use Rattle.lsm_codec.specs.Keys.{UserKey, UserLe}
use Rattle.lsm_codec.specs.Lists.{Has}
use Rattle.lsm_table.specs.Registry.{Table}
use Rattle.lsm_version.specs.Versions.{Levels, level_in, user_of}
use Rattle.lsm_picker.specs.Joining.{Span}
use Rattle.lsm_picker.specs.TablePlans.{tables_over}

-- the level's first file that meets the range
abbrev pub first_over : Levels → ℕ → UserKey → UserKey → Option Table
first_over v level from to = slice_get (tables_over v level from to) 0

-- the key; where there is none, the least one, which is empty
abbrev pub first_key : Option UserKey → UserKey
first_key None = []
first_key (Some key) = key

-- no file of the version has a greater user key
abbrev pub IsLastKey : Levels → UserKey → Type 0
IsLastKey v last = (level : ℕ) → level ≤ 6 → (t : Table) → Has (level_in v.tables level) t
    → UserLe (user_of t.largest) last

-- the key; where there is none, one that no file passes
abbrev pub IsEnd : Levels → Option UserKey → UserKey → Type 0
IsEnd v None end = IsLastKey v end
IsEnd v (Some key) end = end ≡ key

-- no file of any level meets the range
abbrev pub IsUnmet : Levels → UserKey → UserKey → Type 0
IsUnmet v from to = (level : ℕ) → level ≤ 6 → first_over v level from to ≡ None

-- a file of the level meets the range, and none below it does
pub record IsDeepest (v : Levels) (from to : UserKey) (level : ℕ) : Type 0 where
  pub inside : level ≤ 6
  pub met : first_over v level from to ≡ None → ⊥
  pub below : (n : ℕ) → level < n → n ≤ 6 → first_over v n from to ≡ None

-- The range from one key to another, and the deepest level of which a file meets it: level 5 where
-- level 6 is that, for nothing is compacted from there; level 0 where no file meets it.
pub record IsToClear (v : Levels) (from to : Option UserKey) (s : Span) : Type 0 where
  pub from_is : s.from ≡ first_key from
  pub to_is : IsEnd v to s.to
  pub deepest : (IsUnmet v s.from s.to × (s.level ≡ 0))
      ⊎ ((level : ℕ) × IsDeepest v s.from s.to level × (s.level ≡ min level 5))

-- no file of the level, or of one above it, meets the range
abbrev pub IsCleared : Levels → Span → Type 0
IsCleared v s = (level : ℕ) → level ≤ s.level → first_over v level s.from s.to ≡ None
