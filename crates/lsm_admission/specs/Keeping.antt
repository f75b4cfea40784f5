-- What a shelf has to keep, so that a database on it may be opened without reading its tables: what
-- LevelDB builds on when it opens one, and what a judgment of every table finds out.
use Rattle.std.specs.Prelude.{◌≡◌, ℕ, List, length}
use Rattle.lsm_codec.specs.Lists.{Has}
use Rattle.lsm_manifest.specs.FileOrder.{TableFile}
use Rattle.lsm_manifest.specs.Shape.{Form}
use Rattle.lsm_table.specs.Registry.{Table}
use Rattle.lsm_verify.specs.CheckedFiles.{IsImageOf}
use Rattle.lsm_verify.specs.Loading.{all_files}
use Rattle.lsm_verify.specs.Settled.{KeepsAge}
use Rattle.lsm_version.specs.Versions.{Levels, files, level_in}
use Rattle.lsm_admission.specs.FoundTables.{IsFoundFrom}

-- `Keeps` says which images the shelf keeps under which numbers. Each that it keeps for a file of
-- the manifest, and that has the file's size, is the file's: a table that begins and ends at the
-- file's keys, and has no entry above the last sequence. And of a user key's entries, those that
-- lie shallower are newer.
pub record KeepsTables (Keeps : ℕ → List ℕ → Type 0) (shape : Form) : Type 0 where
  pub images : (file : TableFile) (image : List ℕ) → Has (all_files shape.levels) file
      → Keeps file.number image → length image ≡ file.size → IsImageOf shape.last file image
  pub ages : (v : Levels) → IsFoundFrom Keeps shape v → KeepsAge (files v)

-- ---- where that is so

-- Under the number of a table of the version the shelf keeps, of images of that length, the table's
-- image, or none.
abbrev pub KeepsOnly : (ℕ → List ℕ → Type 0) → Levels → Type 0
KeepsOnly Keeps v = (n : ℕ) (t : Table) (image : List ℕ) → Has (level_in v.tables n) t
    → Keeps t.number image → length image ≡ length t.image → image ≡ t.image

-- The images of a version's tables, under their numbers.
abbrev pub ImagesOf : Levels → ℕ → List ℕ → Type 0
ImagesOf v number image = (n : ℕ) × (t : Table) × Has (level_in v.tables n) t
    × (t.number ≡ number) × (t.image ≡ image)
