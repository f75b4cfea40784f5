-- When the result of a job is not stale (this project's rule).
use Rattle.std.specs.Prelude.{◌≡◌, ℕ, suc, List}
use Rattle.lsm_codec.specs.Lists.{Has}
use Rattle.lsm_model.specs.Files.{File}
use Rattle.lsm_version.specs.Versions.{files_of}
use Rattle.lsm_merge.specs.Work.{Done}
use Rattle.lsm_live.specs.Booked.{AreIncreasing, Booked}

-- the live job is the result's, and has drawn the numbers under which the result put its outputs
pub record Awaits (b : Booked) (d : Done) : Type 0 where
  pub work : b.work ≡ d.work
  pub drew : (n : ℕ) → Has d.put n → Has b.drawn n

-- The result's job is live there: just this job is kept, it drew the numbers that the result put,
-- and these rise.
pub record IsLiveResult (live : List Booked) (d : Done) (b : Booked) : Type 0 where
  pub is_live : Has live b
  pub awaits : Awaits b d
  pub rising : AreIncreasing d.put

-- the outputs as files, one level down
abbrev pub outs_of : Done → List File
outs_of d = files_of (suc d.work.level) d.outputs
