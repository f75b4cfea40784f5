-- The files of one level.
use Rattle.std.specs.Prelude.{ℕ, ◌↔◌, List}
use Rattle.std.specs.List.Sorted.{IsStrictlySortedBy}
use Rattle.lsm_codec.specs.Lists.{Has}
use Rattle.lsm_manifest.specs.declared.file_meta.FileMeta.{FileMeta}
use Rattle.lsm_manifest.specs.declared.edit.Edit.{Edit}
use Rattle.lsm_manifest.specs.FileOrder.{file_cmp}
use Rattle.lsm_manifest.specs.Replay.{Stands}

-- The list has just the files that stand at this level, each once, by smallest internal key, then
-- number.
pub record HoldsLevel (edits : List Edit) (level : ℕ) (held : List FileMeta) : Type 0 where
  pub files : (file : FileMeta) → Has held file
      ↔ Stands edits (record { level = level; file = file })
  pub ordered : IsStrictlySortedBy file_cmp held
