-- How much a level has, by a shape alone (LevelDB's `doc/impl.md`, "Compactions", and
-- `VersionSet::Finalize` of `db/version_set.cc`). What it may hold is what the choice of a
-- compaction says (`lsm_picker`).
use Rattle.std.specs.Prelude.{ℕ, zero, suc, ◌*◌, ◌/◌, List, [], length, get_or}
use Rattle.std.specs.List.{sum_by}
use Rattle.lsm_manifest.specs.declared.file_meta.FileMeta.{FileMeta}
use Rattle.lsm_manifest.specs.declared.shape.Shape.{Shape}
use Rattle.lsm_picker.specs.Scores.{limit, scale}

-- the files of a level, in its order
abbrev pub files_at : Shape → ℕ → List FileMeta
files_at s level = get_or s.levels level []

-- the bytes of files
abbrev pub bytes_of : List FileMeta → ℕ
bytes_of fs = sum_by (λ (f : FileMeta). f.size) fs

-- what counts of a level: at level 0 files, at the others bytes
abbrev pub load : ℕ → List FileMeta → ℕ
load zero fs = length fs
load (suc n) fs = bytes_of fs

-- the score of a level, 0 to 5, as a fraction: what its files count, over what it may hold
abbrev pub score : ℕ → List FileMeta → ℕ × ℕ
score level fs = (load level fs, limit level)

-- ---- how the code compares and prints scores

-- the score over the limit of level 5
unfoldable pub weight : ℕ → List FileMeta → ℕ
weight level fs = (score level fs).0 * scale level

-- a score of 1
abbrev pub whole : ℕ
whole = limit 5

-- the score in hundredths, rounded down; so it is 100 or more just where the score is 1 or more
abbrev pub hundredths : ℕ → ℕ
hundredths weight = weight * 100 / whole
