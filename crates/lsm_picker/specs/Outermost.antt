-- Which file of level 0 goes down although it is small, for nothing is ever to be merged with it
-- where keys only rise, or only fall (this project's rule).
use Rattle.std.specs.Prelude.{◌≡◌, ℕ, ◌<◌, ◌≤◌, ◌⊎◌, Bool, true, false, ◌||◌, List, length}
use Rattle.lsm_codec.specs.Lists.{Has}
use Rattle.lsm_table.specs.Registry.{Table}
use Rattle.lsm_version.specs.Versions.{Levels, level_in, user_of}
use Rattle.lsm_picker.specs.Joining.{Span}
use Rattle.lsm_picker.specs.Reservations.{Reserved}
use Rattle.lsm_picker.specs.Scores.{free_tables}
use Rattle.lsm_picker.specs.Stairs.{IsBeyondFrom, IsStair, is_before}

-- no user key lies in the ranges of both
abbrev pub are_apart : Table → Table → Bool
are_apart t u = is_before t u || is_before u t

-- u is not older than t, and if it is newer, they lie apart
abbrev pub MayGoBefore : Table → Table → Type 0
MayGoBefore t u = (t.number ≤ u.number) × (t.number < u.number → are_apart t u ≡ true)

-- it may go before each of these: it is the oldest one, and meets no other one
abbrev pub MayGoFirst : List Table → Table → Type 0
MayGoFirst ts t = (u : Table) → Has ts u → MayGoBefore t u

-- the deeper a level lies, the further its keys lie back
abbrev pub AreStairs : Levels → (rising : Bool) → Type 0
AreStairs v rising = (level : ℕ) → 1 ≤ level → level ≤ 5 → IsStair v rising level

-- It lies beyond all files of levels 1 to 6, and these are stairs.
pub record GoesOn (v : Levels) (rising : Bool) (t : Table) : Type 0 where
  pub beyond : IsBeyondFrom v rising t 1
  pub stairs : AreStairs v rising

-- The oldest file of level 0, which meets no other one there, and goes on where keys rise, or where
-- they fall.
pub record LiesOutside (v : Levels) (t : Table) : Type 0 where
  pub first : MayGoFirst (level_in v.tables 0) t
  pub outside : GoesOn v true t ⊎ GoesOn v false t

-- Level 0 has four files, the inputs of live jobs not counted, and of its files this one lies
-- outside.
pub record IsOutermost (v : Levels) (rs : List Reserved) (t : Table) : Type 0 where
  pub four : 4 ≤ length (free_tables rs (level_in v.tables 0))
  pub here : Has (level_in v.tables 0) t
  pub lies : LiesOutside v t

-- its range at level 0
pub record IsOverOutermost (v : Levels) (rs : List Reserved) (s : Span) : Type 0 where
  pub file : Table
  pub outermost : IsOutermost v rs file
  pub level : s.level ≡ 0
  pub from : s.from ≡ user_of file.smallest
  pub to : s.to ≡ user_of file.largest

abbrev pub HasNoOutermost : Levels → List Reserved → Type 0
HasNoOutermost v rs = (t : Table) → IsOutermost v rs t → ⊥
