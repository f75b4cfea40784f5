-- A version whose tables were found on the shelf and not read (LevelDB's `VersionSet::Recover`;
-- what is judged of them is this project's rule).
use Rattle.std.specs.Prelude.{◌≡◌, ℕ, List, [], ◌∷◌, length}
use Rattle.lsm_codec.specs.Keys.{IsKey}
use Rattle.lsm_codec.specs.Lists.{Has}
use Rattle.lsm_manifest.specs.FileOrder.{TableFile}
use Rattle.lsm_manifest.specs.Shape.{Form}
use Rattle.lsm_model.specs.Ranges.{KeyLe, Range}
use Rattle.lsm_table.specs.Registry.{Table}
use Rattle.lsm_verify.specs.LevelLayouts.{LieInOrder}
use Rattle.lsm_verify.specs.Loading.{placed_levels}
use Rattle.lsm_version.specs.Changes.{placed_all}
use Rattle.lsm_version.specs.FileNumbers.{AreDistinct, numbers_of}
use Rattle.lsm_version.specs.Versions.{AreInOrder, Levels}

-- ---- what a manifest says of a file

-- These are internal keys, the first at most the second.
pub record IsBounds (smallest largest : List ℕ) : Type 0 where
  pub range : Range
  pub first : IsKey smallest range.smallest
  pub end : IsKey largest range.largest
  pub ascends : KeyLe range.smallest range.largest

-- each table of the level has such keys
abbrev pub AreBounded : List Table → Type 0
AreBounded ts = (t : Table) → Has ts t → IsBounds t.smallest t.largest

-- and of all levels
abbrev pub AreLevelsBounded : List (List Table) → Type 0
AreLevelsBounded [] = Unit {0}
AreLevelsBounded (ts ∷ levels) = AreBounded ts × AreLevelsBounded levels

-- ---- tables for files

-- The record has the file's number and its keys, which are bounds, and stands for an image of the
-- file's size that the shelf keeps under the number. What that image is, is not said.
pub record IsFoundFor (Keeps : ℕ → List ℕ → Type 0) (file : TableFile) (t : Table) : Type 0 where
  pub number : t.number ≡ file.number
  pub smallest : t.smallest ≡ file.smallest
  pub largest : t.largest ≡ file.largest
  pub bounds : IsBounds file.smallest file.largest
  pub size : length t.image ≡ file.size
  pub kept : Keeps t.number t.image

-- one table for each file, in the same order
abbrev pub AreFoundFor : (ℕ → List ℕ → Type 0) → List TableFile → List Table → Type 0
AreFoundFor Keeps [] [] = Unit {0}
AreFoundFor Keeps [] (t ∷ ts) = ⊥
AreFoundFor Keeps (file ∷ files) [] = ⊥
AreFoundFor Keeps (file ∷ files) (t ∷ ts) = IsFoundFor Keeps file t × AreFoundFor Keeps files ts

-- the same level by level
abbrev pub AreLevelsFound : (ℕ → List ℕ → Type 0) → List (List TableFile) → List (List Table)
    → Type 0
AreLevelsFound Keeps [] [] = Unit {0}
AreLevelsFound Keeps [] (ts ∷ levels) = ⊥
AreLevelsFound Keeps (files ∷ shape) [] = ⊥
AreLevelsFound Keeps (files ∷ shape) (ts ∷ levels) =
    AreFoundFor Keeps files ts × AreLevelsFound Keeps shape levels

-- the tables of a level were found for its files, and put into place one after another
pub record IsLevelFound (Keeps : ℕ → List ℕ
    → Type 0) (files : List TableFile) (tables : List Table) : Type 0 where
  pub found : List Table
  pub are : AreFoundFor Keeps files found
  pub placed : tables ≡ placed_all found []

-- the same of all levels
pub record AreFound (Keeps : ℕ → List ℕ
    → Type 0) (shape : List (List TableFile)) (tables : List (List Table)) : Type 0 where
  pub found : List (List Table)
  pub are : AreLevelsFound Keeps shape found
  pub placed : tables ≡ placed_levels found

-- ---- the version

-- No two files of the shape have one number; these tables were found for the files.
pub record AreTablesFound (Keeps : ℕ → List ℕ
    → Type 0) (shape : Form) (tables : List (List Table)) : Type 0 where
  pub numbers : AreDistinct (numbers_of shape.levels)
  pub found : AreFound Keeps shape.levels tables
  pub order : AreInOrder tables

-- The version has a table for each file of the shape, the shape's pointers and its last sequence.
-- By the keys of the shape no two tables of a level from 1 on meet.
pub record IsFoundFrom (Keeps : ℕ → List ℕ → Type 0) (shape : Form) (v : Levels) : Type 0 where
  pub tables : AreTablesFound Keeps shape v.tables
  pub apart : LieInOrder v.tables
  pub pointers : v.pointers ≡ shape.pointers
  pub last : v.last ≡ shape.last
