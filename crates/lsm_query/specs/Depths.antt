-- Depths of files as numbers (LevelDB's `doc/impl.md`; each file of level 0 is a depth of its own,
-- the greatest number first, and the levels from 1 on follow).
use Rattle.std.specs.Prelude.{ℕ, zero, suc, ◌+◌, List, length, map, nat_lt}
use Rattle.std.specs.List.{count_by}
use Rattle.std.specs.List.Sorted.{IsNonDecreasing, IsPermutation}
use Rattle.lsm_table.specs.Registry.{Table}
use Rattle.lsm_model.specs.Files.{File}

-- how many tables have a greater number
abbrev pub newer_count : List Table → ℕ → ℕ
newer_count ts number = count_by (λ t. nat_lt number t.number) ts

-- the numbers of these tables, ascending
pub record AreNumbersOf (ts : List Table) (numbers : List ℕ) : Type 0 where
  pub same : IsPermutation (map (λ t. t.number) ts) numbers
  pub ascending : IsNonDecreasing numbers

-- the depth of a file of this level and number, where these are the tables of level 0
abbrev pub depth_at : List Table → ℕ → ℕ → ℕ
depth_at shallow zero number = newer_count shallow number
depth_at shallow (suc level) number = length shallow + suc level

abbrev pub depth_of : List Table → File → ℕ
depth_of shallow F = depth_at shallow F.level F.number
