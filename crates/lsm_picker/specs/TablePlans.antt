-- Plans over the tables of a version (LevelDB's `doc/impl.md`, "Compactions").
use Rattle.std.specs.Prelude.{◌≡◌, ℕ, suc, ◌≤◌, Bool, List, ◌++◌}
use Rattle.std.specs.List.{filter}
use Rattle.lsm_codec.specs.Keys.{UserKey}
use Rattle.lsm_codec.specs.Lists.{Has}
use Rattle.lsm_table.specs.Registry.{Table}
use Rattle.lsm_model.specs.Files.{File, Meets}
use Rattle.lsm_model.specs.Jobs.{Job}
use Rattle.lsm_model.specs.Plans.{IsClosed, IsLinked, Plan, job_from}
use Rattle.lsm_version.specs.Overlap.{meets}
use Rattle.lsm_version.specs.Versions.{Levels, files, files_of, level_in}

-- the tables that a compaction of that level would take there and at the next level, and the least
-- and the greatest user key of all of them: the hull
pub record TablePlan : Type 0 where
  pub level : ℕ
  pub upper : List Table
  pub lower : List Table
  pub low : UserKey
  pub high : UserKey

abbrev pub inputs_of : TablePlan → List Table
inputs_of p = p.upper ++ p.lower

-- the plan as files
abbrev pub plan_of : TablePlan → Plan
plan_of p = record {
  level = p.level;
  upper = files_of p.level p.upper;
  lower = files_of
      (suc p.level) p.lower;
  low = p.low;
  high = p.high;
}

-- the job that takes the plan's tables
abbrev pub job_of : TablePlan → ℕ → ℕ → List (UserKey × UserKey) → Bool → Job
job_of p ticket floor ranges is_move = job_from (plan_of p) ticket floor ranges is_move

-- some tables of the list, in its order
abbrev pub ArePicked : List Table → List Table → Type 0
ArePicked us ts = (pick : Table → Bool) × (us ≡ filter pick ts)

-- exactly the tables of the level that the starting files reach there, in the level's order
pub record AreLinked (v : Levels) (level : ℕ) (Start : File → Type 0) (us : List Table)
    : Type 0 where
  pub only : (F : File) → Has (files_of level us) F → IsLinked (files v) level Start F
  pub whole : (F : File) → IsLinked (files v) level Start F → Has (files_of level us) F
  pub order : ArePicked us (level_in v.tables level)

-- The closed plan of the starting files, each of its lists in its level's order.
pub record IsPlanFrom (v : Levels) (Start : File → Type 0) (p : TablePlan) : Type 0 where
  pub closed : IsClosed (files v) Start (plan_of p)
  pub upper_order : ArePicked p.upper (level_in v.tables p.level)
  pub lower_order : ArePicked p.lower (level_in v.tables (suc p.level))

-- the plan's tables stand at its level, 0 to 5, and the next one
pub record StandsIn (v : Levels) (p : TablePlan) : Type 0 where
  pub level : p.level ≤ 5
  pub upper : (t : Table) → Has p.upper t → Has (level_in v.tables p.level) t
  pub lower : (t : Table) → Has p.lower t → Has (level_in v.tables (suc p.level)) t

-- the tables of a level that meet a range, and these as files
abbrev pub tables_over : Levels → ℕ → UserKey → UserKey → List Table
tables_over v level from to = filter (meets from to) (level_in v.tables level)

abbrev pub files_over : Levels → ℕ → UserKey → UserKey → List File
files_over v level from to = files_of level (tables_over v level from to)

-- no file of the level meets the range
abbrev pub NoneMeets : Levels → ℕ → UserKey → UserKey → Type 0
NoneMeets v level from to = (F : File) → Has (files v) F → F.level ≡ level → Meets F from to → ⊥
