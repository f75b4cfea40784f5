-- How much a level wants to be compacted (LevelDB's `doc/impl.md`, "Compactions", and
-- `VersionSet::Finalize`; that the inputs of live jobs are not counted is this project's rule).
use Rattle.std.specs.Prelude.{ℕ, zero, suc, ◌-◌, ◌*◌, ◌^◌, not, List, length}
use Rattle.std.specs.List.{filter}
use Rattle.lsm_table.specs.Registry.{Table, bytes_of}
use Rattle.lsm_version.specs.Versions.{Levels, level_in}
use Rattle.lsm_picker.specs.Reservations.{Reserved, is_taken}

-- the tables of a list that are inputs of no live job
abbrev pub free_tables : List Reserved → List Table → List Table
free_tables rs ts = filter (λ t. not (is_taken rs t)) ts

-- what a level may hold: four files at level 0, ten megabytes at level 1, and at each further level
-- ten times as much
abbrev pub limit : ℕ → ℕ
limit zero = 4
limit (suc n) = 10485760 * 10 ^ n

-- what counts of a level: at level 0 files, at the others bytes
abbrev pub load : ℕ → List Table → ℕ
load zero ts = length ts
load (suc n) ts = bytes_of ts

-- the score of a level as a fraction: what its free tables count, over what it may hold
abbrev pub score : Levels → List Reserved → ℕ → ℕ × ℕ
score v rs level = (load level (free_tables rs (level_in v.tables level)), limit level)

-- ---- how the code compares scores

-- how often the limit goes into that of level 5
abbrev pub scale : ℕ → ℕ
scale zero = 26214400000
scale (suc n) = 10 ^ (4 - n)

-- the score over the limit of level 5
abbrev pub weight : Levels → List Reserved → ℕ → ℕ
weight v rs level = (score v rs level).0 * scale level
