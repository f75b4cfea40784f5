-- Which files of level 0 become one, and when level 0 itself is compacted (this project's rule;
-- LevelDB needs none, for what comes to its level 0 was gathered in memory).
use Rattle.std.specs.Prelude.{◌≡◌, ℕ, suc, ◌*◌, ◌<◌, ◌≤◌, ◌⊎◌, Bool, true, ◌&&◌, not, List, length}
use Rattle.std.specs.Prelude.{Option, Some, None, nat_le, nat_lt}
use Rattle.std.specs.List.{filter}
use Rattle.lsm_codec.specs.Lists.{Has}
use Rattle.lsm_table.specs.Registry.{Table, bytes_of, size_of}
use Rattle.lsm_version.specs.Versions.{Levels, level_in}
use Rattle.lsm_picker.specs.Reservations.{Reserved, is_taken}
use Rattle.lsm_picker.specs.Scores.{free_tables}

-- below half the target size
abbrev pub is_small : ℕ → Table → Bool
is_small target_size t = nat_lt (2 * size_of t) target_size

-- small, and no live job's input
abbrev pub may_gather : ℕ → List Reserved → Table → Bool
may_gather target_size rs t = is_small target_size t && not (is_taken rs t)

-- the files from that number on: the newest ones
abbrev pub newest : ℕ → List Table → List Table
newest number ts = filter (λ t. nat_le number t.number) ts

-- all files from that number on may be gathered
abbrev pub AllMayGather : ℕ → List Reserved → List Table → ℕ → Type 0
AllMayGather target_size rs ts number =
    (t : Table) → Has ts t → number ≤ t.number → may_gather target_size rs t ≡ true

-- there are eight newest files, or more, that may be gathered
abbrev pub HasEight : ℕ → List Reserved → List Table → Type 0
HasEight target_size rs ts =
    (t : Table) × Has ts t × AllMayGather target_size rs ts t.number
    × (8 ≤ length (newest t.number ts))

-- there are eleven files, or more, and eight newest ones of them, or more, may be gathered
abbrev pub IsCrowded : ℕ → List Reserved → List Table → Type 0
IsCrowded target_size rs ts = (11 ≤ length ts) × HasEight target_size rs ts

-- At most one file is newer; or the newer ones together are below half the target size, and the
-- file has at most one and a half times their bytes.
abbrev pub IsWorthAdding : ℕ → List Table → Table → Type 0
IsWorthAdding target_size ts t = (length (newest (suc t.number) ts) ≤ 1)
    ⊎ ((2 * bytes_of (newest (suc t.number) ts) < target_size)
    × (2 * size_of t ≤ 3 * bytes_of (newest (suc t.number) ts)))

-- The files from this one on may all be gathered, each is worth adding to the newer ones, and they
-- are two at least.
pub record CanGather (target_size : ℕ) (rs : List Reserved) (ts : List Table) (oldest : Table)
    : Type 0 where
  pub all : AllMayGather target_size rs ts oldest.number
  pub worth : (t : Table) → Has ts t → oldest.number ≤ t.number → IsWorthAdding target_size ts t
  pub two : 2 ≤ length (newest oldest.number ts)

-- As many of the newest files as can be, where level 0 is crowded, by the number of the oldest.
pub record IsToGather (v : Levels) (rs : List Reserved) (target_size number : ℕ) : Type 0 where
  pub crowded : IsCrowded target_size rs (level_in v.tables 0)
  pub oldest : Table
  pub here : Has (level_in v.tables 0) oldest
  pub its : oldest.number ≡ number
  pub can : CanGather target_size rs (level_in v.tables 0) oldest
  pub least : (t : Table) → Has (level_in v.tables 0) t
      → CanGather target_size rs (level_in v.tables 0) t → number ≤ t.number

-- level 0 is not crowded, or no file is such an oldest one
abbrev pub HasNoneToGather : Levels → List Reserved → ℕ → Type 0
HasNoneToGather v rs target_size = IsCrowded target_size rs (level_in v.tables 0)
    → (t : Table) → Has (level_in v.tables 0) t
    → CanGather target_size rs (level_in v.tables 0) t → ⊥

-- ---- level 0

-- neither small, nor a live job's input
abbrev pub is_large : ℕ → List Reserved → Table → Bool
is_large target_size rs t = not (is_small target_size t) && not (is_taken rs t)

-- Level 0 has four files that are not small; or eleven files, of which no eight may be gathered.
-- The inputs of live jobs are not counted.
abbrev pub IsReady : Levels → List Reserved → ℕ → Type 0
IsReady v rs target_size =
    (4 ≤ length (filter (is_large target_size rs) (level_in v.tables 0)))
    ⊎ ((11 ≤ length (free_tables rs (level_in v.tables 0)))
    × (HasEight target_size rs (level_in v.tables 0) → ⊥))

-- ---- how the code looks for the oldest

-- it may be gathered, and is worth adding to the newer ones
abbrev pub Joins : ℕ → List Reserved → List Table → Table → Type 0
Joins target_size rs ts t = (may_gather target_size rs t ≡ true) × IsWorthAdding target_size ts t

-- less than the other one, if there is one
abbrev pub IsLesser : ℕ → Option ℕ → Type 0
IsLesser number None = Unit {0}
IsLesser number (Some other) = number < other

-- greater than the other one, if there is one
abbrev pub IsGreater : ℕ → Option ℕ → Type 0
IsGreater number None = Unit {0}
IsGreater number (Some other) = other < number

-- the greatest number of the first tables of which one does not join
abbrev pub IsLastToStay : ℕ → List Reserved → (ts first : List Table) → Option ℕ → Type 0
IsLastToStay target_size rs ts first None =
    (t : Table) → Has first t → Joins target_size rs ts t
IsLastToStay target_size rs ts first (Some n) =
    ((t : Table) × Has ts t × (t.number ≡ n) × (Joins target_size rs ts t → ⊥))
    × ((t : Table) → Has first t → n < t.number → Joins target_size rs ts t)

-- the least number of the first tables that is above the other one
abbrev pub IsFirstAbove : Option ℕ → (ts first : List Table) → Option ℕ → Type 0
IsFirstAbove last ts first None = (t : Table) → Has first t → IsGreater t.number last → ⊥
IsFirstAbove last ts first (Some n) =
    ((t : Table) × Has ts t × (t.number ≡ n) × IsGreater n last)
    × ((t : Table) → Has first t → IsGreater t.number last → n ≤ t.number)
