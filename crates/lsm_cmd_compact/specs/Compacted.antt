-- What a `compact` comes to, for the words of its command line: this project's rule. It is about a
-- folder that was opened at the path of these words, and about shelves on its place; that such a
-- shelf is the run's own is to be read.
use Rattle.std.specs.Prelude.{◌⊎◌, ℕ, List, Option}
use Rattle.std.specs.Io.KnownBytes.{Keeps}
use Rattle.lsm_folder.specs.Calls.{AreHonest}
use Rattle.lsm_folder.specs.declared.folder_calls.FolderCalls.{Ghosts}
use Rattle.lsm_folder.specs.declared.mark.Mark as mark
use Rattle.lsm_shelf.specs.Refusals.{MayRefuse}
use Rattle.lsm_storage.specs.declared.file.file_shelf.FileShelf.{FileShelf}
use Rattle.lsm_requests.specs.declared.compact_line.CompactLine.{CompactLine}
use Rattle.lsm_cmd_compact.specs.Compacting.{IsCompacted, IsNotCompacted}
use Rattle.lsm_directory.specs.Folders.{IsShelfAt, stored_at, told_by}
use Rattle.lsm_opening.specs.Tidying.{IsHeldTidy}
use Rattle.lsm_opening.specs.declared.faults.compact_fault.CompactFault.{CompactFault}

module _ {C M : Type 0} (folders : Ghosts C M) where
  -- The lock of the folder at the path was held, and obsolete files were removed. A shelf of it was
  -- compacted by so many workers.
  pub record IsCompactedAt (line : CompactLine) (old new : Option (List ℕ)) : Type 0 where
    pub begun : FileShelf C M
    pub on : IsShelfAt folders line.path.now IsHeldTidy begun
    pub ended : FileShelf C M
    pub done : IsCompacted MayRefuse (AreHonest folders.calls) line.options
        (told_by folders begun) (told_by folders ended) old new

module _ {C M : Type 0} (folders : Ghosts C M) (marks : mark.Ghosts M) where
  -- The lock of the folder at the path was held, and obsolete files were removed. On a shelf of it
  -- this fault was met.
  pub record IsUncompactedAt (line : CompactLine) (fault : CompactFault) (old new : Option (List ℕ))
      : Type 0 where
    pub begun : FileShelf C M
    pub on : IsShelfAt folders line.path.now IsHeldTidy begun
    pub ended : FileShelf C M
    pub refused :
        IsNotCompacted (stored_at folders marks (told_by folders begun).place) MayRefuse
        (AreHonest folders.calls) line.options fault
        (told_by folders begun) (told_by folders ended) old new

  -- nothing was written; or that
  abbrev pub IsUncompacted : CompactLine → (old new : Option (List ℕ)) → Type 0
  IsUncompacted line old new = Keeps old new
      ⊎ ((fault : CompactFault) × IsUncompactedAt line fault old new)
