-- What is read of a database beside its tables (LevelDB's `doc/impl.md`, "Recovery").
use Rattle.std.specs.Prelude.{◌≡◌, ◌⊎◌, ℕ, ◌+◌, List, length}
use Rattle.lsm_folder.specs.Calls.{Call}
use Rattle.lsm_shelf.specs.Asked.{Asked}
use Rattle.lsm_shelf.specs.Told.{Becomes, Told, finding}
use Rattle.lsm_shelf.specs.declared.shelf_fault.ShelfFault.{ShelfFault}
use Rattle.lsm_manifest.specs.EditFit.{Change}
use Rattle.lsm_manifest.specs.Manifest.{IsManifest}
use Rattle.lsm_manifest.specs.Shape.{Form, IsReplayed}
use Rattle.lsm_journal.specs.Recovering.{IsRecoverRefusal}
use Rattle.lsm_journal.specs.declared.recover_fault.RecoverFault.{RecoverFault}
use Rattle.lsm_directory.specs.declared.folder.folder_file.FolderFile.{FolderFile}
use Rattle.lsm_wal.specs.WriteLogs.{AreInRow}
use Rattle.lsm_wal.specs.declared.write_batch.WriteBatch.{WriteBatch}
use Rattle.lsm_log_files.specs.Logs.{AreLogs, AreRead, AreUnread}
use Rattle.lsm_log_files.specs.declared.source_fault.SourceFault.{SourceFault}
use Rattle.lsm_log_files.specs.declared.source_fault.SourceFault.TheVariants.{OutOfMemory, Manifest}

-- The shelf gave its manifest, and nothing else was told: edits that come to this shape, and so
-- many bytes at the end that hold no whole record.
pub record HasShape (shape : Form) (rest : ℕ) (was is : Told) : Type 0 where
  pub number : ℕ
  pub bytes : List ℕ
  pub found : Becomes (finding number bytes was) is
  pub edits : List Change
  pub manifest : IsManifest bytes edits rest
  pub replayed : IsReplayed edits shape

-- a shelf read its manifest at most, and nothing else was told
abbrev pub ReadsManifest : Told → Told → Type 0
ReadsManifest was is =
    Becomes was is ⊎ ((number : ℕ) × (bytes : List ℕ) × Becomes (finding number bytes was) is)

-- The manifest came to this shape. Of the files beside its tables the logs that LevelDB reads are
-- so many; these are their batches, of which none begins below the end of the one before, also
-- from one log to the next; and so many bytes at the ends hold no whole record.
pub record IsSource (files : List FolderFile) (shape : Form) (batches : List WriteBatch)
    (count rest : ℕ) (old new : List Call) (was is : Told) : Type 0 where
  pub torn : ℕ
  pub has : HasShape shape torn was is
  pub numbers : List ℕ
  pub logs : AreLogs shape.log shape.prev_log files numbers
  pub counted : count ≡ length numbers
  pub tail : ℕ
  pub read : AreRead numbers batches tail old new
  pub row : AreInRow batches
  pub rests : rest ≡ torn + tail

-- The manifest came to a shape, and its logs were not all read.
pub record HasUnreadLogs (files : List FolderFile) (fault : SourceFault) (old new : List Call)
    (was is : Told) : Type 0 where
  pub shape : Form
  pub torn : ℕ
  pub has : HasShape shape torn was is
  pub numbers : List ℕ
  pub logs : AreLogs shape.log shape.prev_log files numbers
  pub unread : AreUnread numbers fault old new

-- Memory ran out; or the manifest is refused, and no log was read; or a log is.
abbrev pub IsNoSource : (Asked → ShelfFault → Type 0) → List FolderFile → SourceFault → List Call
    → List Call → Told → Told → Type 0
IsNoSource Refused files fault old new was is =
    (fault ≡ OutOfMemory)
    ⊎ (((e : RecoverFault) × (fault ≡ Manifest e) × IsRecoverRefusal Refused e was is
    × (new ≡ old)) ⊎ HasUnreadLogs files fault old new was is)
