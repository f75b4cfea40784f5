-- Levels whose keys lie beyond those of all deeper ones (this project's rule).
use Rattle.std.specs.Prelude.{◌≡◌, ℕ, suc, ◌-◌, ◌≤◌, Bool, true, false, not, Option, Some}
use Rattle.std.specs.Prelude.{List, length, slice_get}
use Rattle.lsm_codec.specs.Keys.{user_le}
use Rattle.lsm_table.specs.Registry.{Table}
use Rattle.lsm_version.specs.Versions.{Levels, level_in, user_of}

-- the user keys of t are below all of u
abbrev pub is_before : Table → Table → Bool
is_before t u = not (user_le (user_of u.smallest) (user_of t.largest))

-- the last file of a sorted level where keys rise, the first one where they fall
abbrev pub foremost : (rising : Bool) → List Table → Option Table
foremost true ts = slice_get ts (length ts - 1)
foremost false ts = slice_get ts 0

-- t lies beyond u, in the direction in which keys go
abbrev pub is_beyond : (rising : Bool) → Table → Table → Bool
is_beyond true t u = is_before u t
is_beyond false t u = is_before t u

-- it lies beyond all of a sorted level
abbrev pub IsBeyond : (rising : Bool) → Table → List Table → Type 0
IsBeyond rising t ts = (u : Table) → foremost rising ts ≡ Some u → is_beyond rising t u ≡ true

-- it lies beyond all levels from the first one to level 6
abbrev pub IsBeyondFrom : Levels → (rising : Bool) → Table → (first : ℕ) → Type 0
IsBeyondFrom v rising t first =
    (level : ℕ) → first ≤ level → level ≤ 6 → IsBeyond rising t (level_in v.tables level)

-- each file of this level lies beyond all deeper levels, for its innermost one does
abbrev pub IsStair : Levels → (rising : Bool) → (level : ℕ) → Type 0
IsStair v rising level = (t : Table) → foremost (not rising) (level_in v.tables level) ≡ Some t
    → IsBeyondFrom v rising t (suc level)
