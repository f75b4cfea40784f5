-- The one edit that spells a shape (as LevelDB's `VersionSet::WriteSnapshot` begins a new manifest;
-- that the numbers stand in the same edit is this project's rule).
use Rattle.std.specs.Prelude.{ℕ, suc, ◌≤◌, List, [], ◌∷◌, ◌++◌, map, Option, Some, None, IfSome}
use Rattle.std.specs.Prelude.{get_or, codes}
use Rattle.lsm_codec.specs.Lists.{Has}
use Rattle.lsm_manifest.specs.declared.file_meta.FileMeta.{FileMeta}
use Rattle.lsm_manifest.specs.declared.parts.CompactPointer.{CompactPointer}
use Rattle.lsm_manifest.specs.declared.parts.AddedFile.{AddedFile}
use Rattle.lsm_manifest.specs.declared.edit.Edit.{Edit}
use Rattle.lsm_manifest.specs.declared.shape.Shape.{Shape}
use Rattle.lsm_manifest.specs.EditFit.{FitsKey}

-- the pointers of the levels from this one on
abbrev pub pointers_from : ℕ → List (Option (List ℕ)) → List CompactPointer
pointers_from level [] = []
pointers_from level (None ∷ later) = pointers_from (suc level) later
pointers_from level (Some key ∷ later) =
    record { level = level; key = key } ∷ pointers_from (suc level) later

abbrev pub placed_at : ℕ → FileMeta → AddedFile
placed_at level file = record { level = level; file = file }

-- the files of the levels from this one on, each level in its order
abbrev pub files_from : ℕ → List (List FileMeta) → List AddedFile
files_from level [] = []
files_from level (files ∷ later) = map (placed_at level) files ++ files_from (suc level) later

abbrev pub whole_edit : Shape → Edit
whole_edit s = record {
  comparator = Some (codes "leveldb.BytewiseComparator");
  log = Some s.log;
  prev_log = Some s.prev_log;
  next = Some s.next;
  last = Some s.last;
  pointers = pointers_from 0 s.pointers;
  deleted = [];
  added = files_from 0 s.levels;
}

-- Each key of a file or of a pointer is an internal key whose length fits 32 bits.
pub record FitsShape (s : Shape) : Type 0 where
  pub files : (level : ℕ) (file : FileMeta) → level ≤ 6 → Has (get_or s.levels level []) file
      → FitsKey file.smallest × FitsKey file.largest
  pub pointers : (level : ℕ) → level ≤ 6 → IfSome (get_or s.pointers level None) FitsKey
