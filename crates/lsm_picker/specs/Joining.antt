-- Which files below level 0 are joined, so that small ones become larger (this project's rule).
use Rattle.std.specs.Prelude.{◌≡◌, ℕ, ◌+◌, ◌-◌, ◌*◌, ◌<◌, ◌≤◌, ◌⊎◌, Bool, true, false, not, List}
use Rattle.std.specs.Prelude.{Some, length, slice_get, slice_range}
use Rattle.lsm_codec.specs.Keys.{UserKey}
use Rattle.lsm_table.specs.Registry.{Table, bytes_of}
use Rattle.lsm_version.specs.Versions.{Levels, level_in, user_of}
use Rattle.lsm_picker.specs.Stairs.{IsStair, foremost}

-- the files of a level that meet a range of user keys, both ends included
pub record Span : Type 0 where
  pub level : ℕ
  pub from : UserKey
  pub to : UserKey

-- twelve neighbours from this index on, with at most three target sizes of bytes together
pub record IsRun (target_size : ℕ) (ts : List Table) (at : ℕ) : Type 0 where
  pub inside : at + 12 ≤ length ts
  pub few : bytes_of (slice_range ts at (at + 12)) ≤ 3 * target_size

-- no run begins before this index
abbrev pub NoRunBefore : ℕ → List Table → ℕ → Type 0
NoRunBefore target_size ts end = (at : ℕ) → at < end → IsRun target_size ts at → ⊥

-- no run begins behind this index
abbrev pub NoRunBehind : ℕ → List Table → ℕ → Type 0
NoRunBehind target_size ts start = (at : ℕ) → start < at → IsRun target_size ts at → ⊥

abbrev pub HasNoRun : ℕ → List Table → Type 0
HasNoRun target_size ts = (at : ℕ) → IsRun target_size ts at → ⊥

-- no level from 1 on and above this one has a run
abbrev pub NoRunAbove : ℕ → Levels → ℕ → Type 0
NoRunAbove target_size v end =
    (level : ℕ) → 1 ≤ level → level < end → HasNoRun target_size (level_in v.tables level)

-- from the least user key of a run's first file to the greatest one of its last, the twelfth
pub record IsOverRun (ts : List Table) (at : ℕ) (from to : UserKey) : Type 0 where
  pub first : (t : Table) × (slice_get ts at ≡ Some t) × (from ≡ user_of t.smallest)
  pub last : (t : Table) × (slice_get ts (at + 11) ≡ Some t) × (to ≡ user_of t.largest)

-- A level falls: its first file is newer than its last one, as where new keys are below all others.
pub record Falls (ts : List Table) : Type 0 where
  pub first : Table
  pub is_first : slice_get ts 0 ≡ Some first
  pub last : Table
  pub is_last : slice_get ts (length ts - 1) ≡ Some last
  pub newer : last.number < first.number

-- the last run of a level that falls, the first one of any other
pub record IsInnermost (target_size : ℕ) (ts : List Table) (at : ℕ) : Type 0 where
  pub run : IsRun target_size ts at
  pub innermost : (Falls ts × NoRunBehind target_size ts at)
      ⊎ ((Falls ts → ⊥) × NoRunBefore target_size ts at)

-- which way the files of a level go
abbrev pub Goes : List Table → (rising : Bool) → Type 0
Goes ts true = Falls ts → ⊥
Goes ts false = Falls ts

-- a file of the level lies further in than the run that begins at this index
abbrev pub LeavesOne : List Table → (rising : Bool) → (at : ℕ) → Type 0
LeavesOne ts true at = 0 < at
LeavesOne ts false at = at + 12 < length ts

-- The innermost file of a level that lies beyond all deeper ones, where the run that begins at this
-- index leaves it.
pub record GoesFirst (v : Levels) (level at : ℕ) (t : Table) : Type 0 where
  pub rising : Bool
  pub goes : Goes (level_in v.tables level) rising
  pub leaves : LeavesOne (level_in v.tables level) rising at
  pub innermost : foremost (not rising) (level_in v.tables level) ≡ Some t
  pub stair : IsStair v rising level

-- from the least user key of a file to its greatest one
abbrev pub IsOverFile : Table → (from to : UserKey) → Type 0
IsOverFile t from to = (from ≡ user_of t.smallest) × (to ≡ user_of t.largest)

-- the range of the file that goes before the level's innermost run, or of that run
pub record IsOverInnermost (v : Levels) (target_size level : ℕ) (from to : UserKey)
    : Type 0 where
  pub at : ℕ
  pub innermost : IsInnermost target_size (level_in v.tables level) at
  pub over : ((t : Table) × GoesFirst v level at t × IsOverFile t from to)
      ⊎ (((t : Table) → GoesFirst v level at t → ⊥)
      × IsOverRun (level_in v.tables level) at from to)

-- What is joined: of the first level, 1 to 5, that has a run, the range of the innermost one, or of
-- the file that goes before it.
pub record IsJoined (v : Levels) (target_size : ℕ) (s : Span) : Type 0 where
  pub below : 1 ≤ s.level
  pub inside : s.level ≤ 5
  pub none_above : NoRunAbove target_size v s.level
  pub over : IsOverInnermost v target_size s.level s.from s.to

-- none of these levels has a run
abbrev pub IsSettled : Levels → ℕ → Type 0
IsSettled v target_size = NoRunAbove target_size v 6
