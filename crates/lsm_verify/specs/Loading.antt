-- The files of a shape as they are read, level by level (this project's rule).
use Rattle.std.specs.Prelude.{◌≡◌, ℕ, List, [], ◌∷◌, ◌++◌}
use Rattle.std.specs.List.Sorted.{IsStrictlySortedBy}
use Rattle.lsm_table.specs.Registry.{Table}
use Rattle.lsm_manifest.specs.FileOrder.{TableFile, file_cmp}
use Rattle.lsm_version.specs.Changes.{placed_all}
use Rattle.lsm_table.specs.Table.{IsTable}
use Rattle.lsm_table.specs.HeldTable.{entries_in}
use Rattle.lsm_verify.specs.CheckedFiles.{IsFileOf, IsSpanned}
use Rattle.lsm_verify.specs.Settled.{AreSequences, AreSequencesOf, AreLevelSequences}
use Rattle.lsm_verify.specs.declared.sequences.Sequences.{Sequences}

-- the files of all levels
abbrev pub all_files : List (List TableFile) → List TableFile
all_files [] = []
all_files (files ∷ levels) = files ++ all_files levels

-- the files of each level by smallest internal key, then by number, each once
abbrev pub AreInFileOrder : List (List TableFile) → Type 0
AreInFileOrder [] = Unit {0}
AreInFileOrder (files ∷ levels) = IsStrictlySortedBy file_cmp files × AreInFileOrder levels

-- The table of a file, read and judged: what the registry is to have of it, its sequences, and the
-- last sequence, above which it has none.
pub record Judged : Type 0 where
  pub number : ℕ
  pub smallest : List ℕ
  pub largest : List ℕ
  pub image : List ℕ
  pub sequences : Sequences
  pub last : ℕ

-- The image is a table that begins and ends at these keys, has no entry above the last sequence,
-- and has these sequences.
pub record IsJudged (last : ℕ) (smallest largest image : List ℕ) (s : Sequences) : Type 0 where
  pub table : IsTable image (entries_in image)
  pub spanned : IsSpanned last smallest largest (entries_in image)
  pub sequences : AreSequencesOf (entries_in image) s

-- ---- tables for files

-- one table for each file, in the same order
abbrev pub AreFilesOf : ℕ → List TableFile → List Table → Type 0
AreFilesOf last [] [] = Unit {0}
AreFilesOf last [] (t ∷ ts) = ⊥
AreFilesOf last (file ∷ files) [] = ⊥
AreFilesOf last (file ∷ files) (t ∷ ts) = IsFileOf last file t × AreFilesOf last files ts

-- the shelf holds these images under the tables' numbers
abbrev pub AreStored : (ℕ → List ℕ → Type 0) → List Table → Type 0
AreStored Stored [] = Unit {0}
AreStored Stored (t ∷ ts) = Stored t.number t.image × AreStored Stored ts

-- the same level by level
abbrev pub AreLevelsOf : ℕ → List (List TableFile) → List (List Table) → Type 0
AreLevelsOf last [] [] = Unit {0}
AreLevelsOf last [] (ts ∷ levels) = ⊥
AreLevelsOf last (files ∷ shape) [] = ⊥
AreLevelsOf last (files ∷ shape) (ts ∷ levels) =
    AreFilesOf last files ts × AreLevelsOf last shape levels

abbrev pub AreLevelsStored : (ℕ → List ℕ → Type 0) → List (List Table) → Type 0
AreLevelsStored Stored [] = Unit {0}
AreLevelsStored Stored (ts ∷ levels) = AreStored Stored ts × AreLevelsStored Stored levels

-- each level's tables put into place one after another
abbrev pub placed_levels : List (List Table) → List (List Table)
placed_levels [] = []
placed_levels (ts ∷ levels) = placed_all ts [] ∷ placed_levels levels

-- The tables of a level were read for its files, one after another, put into place, and their
-- sequences stand beside them.
pub record IsLevelRead (Stored : ℕ → List ℕ
    → Type 0) (last : ℕ) (files : List TableFile) (tables : List Table) (spans
    : List Sequences) : Type 0 where
  pub read : List Table
  pub are : AreFilesOf last files read
  pub stored : AreStored Stored read
  pub placed : tables ≡ placed_all read []
  pub sequences : AreSequences tables spans

-- the same of all levels
pub record AreRead (Stored : ℕ → List ℕ
    → Type 0) (last : ℕ) (shape : List (List TableFile)) (tables : List (List Table)) (spans
    : List (List Sequences)) : Type 0 where
  pub read : List (List Table)
  pub are : AreLevelsOf last shape read
  pub stored : AreLevelsStored Stored read
  pub placed : tables ≡ placed_levels read
  pub sequences : AreLevelSequences tables spans
