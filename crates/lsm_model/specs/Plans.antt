-- Plans: the files that a job takes, so that none that meets them stays out (LevelDB's
-- `doc/impl.md`, "Compactions").
use Rattle.std.specs.Prelude.{◌≡◌, ℕ, suc, ◌≤◌, Bool, List, ◌++◌}
use Rattle.lsm_codec.specs.Lists.{Has}
use Rattle.lsm_codec.specs.Keys.{UserKey, UserLe}
use Rattle.lsm_model.specs.Files.{File, Meets}
use Rattle.lsm_model.specs.Jobs.{Job}

-- the files of a level that are reached from the starting files, where each meets the one before in
-- user keys
pub data IsLinked (v : List File) (level : ℕ) (Start : File → Type 0) : File → Type 0 where
  starting : (F : File) → Has v F → F.level ≡ level → Start F → IsLinked v level Start F
  meeting : (F G : File) → IsLinked v level Start F → Has v G → G.level ≡ level
      → Meets G F.low F.high → IsLinked v level Start G

-- low and high are the least and the greatest user key of the files
pub record Spans (files : List File) (low high : UserKey) : Type 0 where
  pub above : (F : File) → Has files F → UserLe low F.low
  pub below : (F : File) → Has files F → UserLe F.high high
  pub least : (F : File) × Has files F × (F.low ≡ low)
  pub greatest : (F : File) × Has files F × (F.high ≡ high)

-- the files that a job of that level would take there and at the next level, and their span
pub record Plan : Type 0 where
  pub level : ℕ
  pub upper : List File
  pub lower : List File
  pub low : UserKey
  pub high : UserKey

-- the job of a plan, with this ticket, floor and these ranges, which is a move or none
abbrev pub job_from : Plan → ℕ → ℕ → List (UserKey × UserKey) → Bool → Job
job_from plan ticket floor ranges is_move = record {
  ticket = ticket;
  level = plan.level;
  inputs = plan.upper ++ plan.lower;
  low = plan.low;
  high = plan.high;
  floor = floor;
  ranges = ranges;
  is_move = is_move;
}

-- The plan from the starting files: exactly the files that they reach at the level, and at the next
-- level exactly those that the range of these reaches (this project's rule, wider than LevelDB's
-- boundary files).
pub record IsClosed (v : List File) (Start : File → Type 0) (plan : Plan) : Type 0 where
  pub upper_from : (F : File) → Has plan.upper F → IsLinked v plan.level Start F
  pub upper_all : (F : File) → IsLinked v plan.level Start F → Has plan.upper F
  -- the range of the upper inputs
  pub from : UserKey
  pub to : UserKey
  pub range : Spans plan.upper from to
  pub lower_from : (F : File) → Has plan.lower F
      → IsLinked v (suc plan.level) (λ G. Meets G from to) F
  pub lower_all : (F : File) → IsLinked v (suc plan.level) (λ G. Meets G from to) F
      → Has plan.lower F
  pub hull : Spans (plan.upper ++ plan.lower) plan.low plan.high

-- the job is the plan's, and its ranges are just those of the files two or more levels below
pub record IsJobOf (v : List File) (plan : Plan) (job : Job) : Type 0 where
  pub level : job.level ≡ plan.level
  pub inputs : job.inputs ≡ plan.upper ++ plan.lower
  pub low : job.low ≡ plan.low
  pub high : job.high ≡ plan.high
  pub ranges : (F : File) → Has v F → suc (suc plan.level) ≤ F.level
      → Has job.ranges (F.low, F.high)
  pub ranges_from : (r : UserKey × UserKey) → Has job.ranges r
      → (F : File) × Has v F × (suc (suc plan.level) ≤ F.level) × ((F.low, F.high) ≡ r)
