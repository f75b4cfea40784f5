-- A copy of a database, before its manifest is begun (LevelDB's `VersionSet::WriteSnapshot` and
-- `DBImpl::RecoverLogFile`; that a log's writes get new sequences is this project's rule).
use Rattle.std.specs.Prelude.{◌≡◌, ◌⊎◌, ℕ, suc, ◌+◌, ◌-◌, ◌^◌, ◌<◌, ◌≤◌, List, [], ◌∷◌, ◌++◌}
use Rattle.std.specs.Prelude.{length, Some}
use Rattle.lsm_codec.specs.Lists.{Has}
use Rattle.lsm_codec.specs.Entries.{Entry}
use Rattle.lsm_shelf.specs.Asked.{Asked, StartManifest}
use Rattle.lsm_shelf.specs.Told.{Becomes, Told, sending}
use Rattle.lsm_shelf.specs.declared.shelf_fault.ShelfFault.{ShelfFault}
use Rattle.lsm_table.specs.Table.{IsImage}
use Rattle.lsm_table.specs.declared.table_options.TableOptions.{TableOptions}
use Rattle.lsm_manifest.specs.EditFit.{Change, IsFit}
use Rattle.lsm_manifest.specs.EditWriting.{edit_text}
use Rattle.lsm_manifest.specs.LogWriting.{record_text}
use Rattle.lsm_manifest.specs.Manifest.{IsManifest}
use Rattle.lsm_manifest.specs.Replay.{FileAt}
use Rattle.lsm_manifest.specs.Shape.{Form, IsRefused}
use Rattle.lsm_manifest.specs.WholeEdit.{files_from, whole_edit}
use Rattle.lsm_batch.specs.Batches.{entries_from}
use Rattle.lsm_batch.specs.Images.{PassesTable}
use Rattle.lsm_batch.specs.LastWrites.{KeepsLast}
use Rattle.lsm_batch.specs.declared.write.Write.{Write}
use Rattle.lsm_wal.specs.WriteLog.{after, writes_of}
use Rattle.lsm_wal.specs.declared.write_batch.WriteBatch.{WriteBatch}
use Rattle.lsm_import.specs.Copies.{AreCopies, AreNotCopied, HasLastNumber, IsAbove, IsPutRefusal}
use Rattle.lsm_import.specs.Copies.{OnlyPuts}
use Rattle.lsm_import.specs.declared.copied.Copied.{Copied}
use Rattle.lsm_import.specs.declared.import_fault.ImportFault.{ImportFault}
use Rattle.lsm_import.specs.declared.import_fault.ImportFault.TheVariants.{OutOfMemory, Unread}
use Rattle.lsm_import.specs.declared.import_fault.ImportFault.TheVariants.{Packed, WrongRange}
use Rattle.lsm_import.specs.declared.import_fault.ImportFault.TheVariants.{Unwritten, TooLarge}
use Rattle.lsm_import.specs.declared.import_fault.ImportFault.TheVariants.{SequencesSpent}
use Rattle.lsm_import.specs.declared.import_fault.ImportFault.TheVariants.{NumbersSpent}
use Rattle.lsm_import.specs.declared.import_fault.ImportFault.TheVariants.{Replay}

-- ---- tables

-- the copy of a shape: the one edit that spells it, with these tables, without logs, and with this
-- next file number
abbrev pub copied_of : Form → List FileAt → ℕ → Copied
copied_of shape files next = record {
  edit = record (whole_edit shape)
      { log = Some 0; prev_log = Some 0; next = Some next; added = files };
  next = next;
  last = shape.last;
  writes = 0;
}

-- The copy has a table for each of the shape, and its next file number is above theirs. These are
-- the entries of all.
pub record IsCopiedOf (From Into : ℕ → List ℕ → Type 0) (shape : Form) (copied : Copied) : Type 0
  where
    pub files : List FileAt
    pub entries : List Entry
    pub next : ℕ
    pub copies : AreCopies From Into (files_from 0 shape.levels) files entries
    pub above : IsAbove shape.next files next
    pub is : copied ≡ copied_of shape files next

-- its edit can be written
pub record IsFitting (copied : Copied) : Type 0 where
  pub fits : IsFit copied.edit
  pub none : copied.edit.deleted ≡ []

-- Why the tables are not copied: one of them is refused, or memory ran out; or they are copied, and
-- no file number is left.
abbrev pub IsNotCopied : (ℕ → List ℕ → Type 0) → (ℕ → List ℕ → Type 0)
    → (Asked → ShelfFault → Type 0) → (Asked → ShelfFault → Type 0) → TableOptions → List FileAt
    → ImportFault → Type 0
IsNotCopied From Into Unheld Denied options files fault =
    AreNotCopied From Unheld Denied options files fault
    ⊎ ((fault ≡ NumbersSpent) × ((copies : List FileAt) × (es : List Entry)
    × AreCopies From Into files copies es × HasLastNumber copies))

-- LevelDB's usual options of tables
abbrev pub usual : TableOptions
usual = record { block_size = 4096; restart_interval = 16 }

-- ---- logs

-- the file is the table of these entries, at level 0
pub record IsLogFile (Into : ℕ → List ℕ → Type 0) (entries : List Entry) (number : ℕ)
    (file : FileAt) : Type 0 where
  pub image : List ℕ
  pub put : Into number image
  pub table : IsImage entries file.file.smallest file.file.largest image
  pub level : file.level ≡ 0
  pub number_is : file.file.number ≡ number
  pub size : file.file.size ≡ length image

-- one table more, of so many writes that begin at this sequence
abbrev pub with_file : Copied → FileAt → ℕ → ℕ → Copied
with_file copied file first count = record {
  edit = record copied.edit {
    next = Some (copied.next + 1);
    last = Some (first + count - 1);
    added = copied.edit.added ++ file ∷ [];
  };
  next = copied.next + 1;
  last = first + count - 1;
  writes = count;
}

-- The writes from this sequence on are one table more; no writes are none.
abbrev pub HasWrites : (ℕ → List ℕ → Type 0) → ℕ → List Write → Copied → Copied → Type 0
HasWrites Into first [] old new = new ≡ old
HasWrites Into first (w ∷ ws) old new =
    (file : FileAt) × IsLogFile Into (entries_from first (w ∷ ws)) old.next file
    × (new ≡ with_file old file first (suc (length ws)))

-- Of each key the last write of the batches came in, under sequences above the copy's last one and
-- all of the batches.
pub record HasLogs (Into : ℕ → List ℕ → Type 0) (batches : List WriteBatch) (old new : Copied)
    : Type 0 where
  pub batch : List Write
  pub first : ℕ
  pub last : KeepsLast (writes_of batches) batch
  pub above : old.last < first
  pub behind : after 0 batches ≤ first
  pub has : HasWrites Into first batch old new

-- no so many sequences are left from above the last one, and from this one on
abbrev pub AreSpent : ℕ → ℕ → ℕ → Type 0
AreSpent last end count = (2 ^ 56 < suc last + count) ⊎ (2 ^ 56 < end + count)

-- the table of these entries is too large: a block of it would pass 2^32 - 1 bytes, or a key does
abbrev pub IsLarge : TableOptions → List Entry → Type 0
IsLarge options es =
    PassesTable options es ⊎ ((e : Entry) × Has es e × (2 ^ 32 ≤ length e.user + 8))

-- Why the table of these entries is not made under this number.
abbrev pub IsTableRefusal : (Asked → ShelfFault → Type 0) → TableOptions → List Entry → ℕ
    → ImportFault → Type 0
IsTableRefusal Denied options es number fault =
    ((fault ≡ TooLarge) × IsLarge options es)
    ⊎ ((image : List ℕ) × IsPutRefusal Denied number image fault)

-- Why the logs' writes do not come in: memory ran out; or no sequences or no file number are left
-- for the last write of each key; or their table is not made.
abbrev pub IsLogsRefusal : (Asked → ShelfFault → Type 0) → TableOptions → List WriteBatch → Copied
    → ImportFault → Type 0
IsLogsRefusal Denied options batches old fault = (fault ≡ OutOfMemory)
    ⊎ ((batch : List Write) × KeepsLast (writes_of batches) batch
    × (((fault ≡ SequencesSpent) × AreSpent old.last (after 0 batches) (length batch))
    ⊎ (((fault ≡ NumbersSpent) × (old.next ≡ 2 ^ 64 - 1))
    ⊎ ((first : ℕ) × IsTableRefusal Denied options (entries_from first batch) old.next fault))))

-- ---- the manifest

-- the edit of the manifest, which has the first number that is left
abbrev pub begun_edit : Copied → Change
begun_edit copied = record copied.edit { next = Some (copied.next + 1) }

-- the manifest's bytes
abbrev pub manifest_of : Copied → List ℕ
manifest_of copied = record_text 0 (edit_text (begun_edit copied))

-- Tables were put, and then the manifest of the copy was begun: its one edit names just them.
pub record IsBegun (whole : Copied) (was is : Told) : Type 0 where
  pub mid : Told
  pub puts : OnlyPuts was mid
  pub begun : Becomes (sending whole.next (manifest_of whole) mid) is
  pub manifest : IsManifest (manifest_of whole) (begun_edit whole ∷ []) 0

-- Why no manifest is begun: memory ran out; or no file number is left; or the edit comes to no
-- shape; or the target refuses.
abbrev pub IsBeginRefusal : (Asked → ShelfFault → Type 0) → Copied → ImportFault → Type 0
IsBeginRefusal Denied copied OutOfMemory = Unit {0}
IsBeginRefusal Denied copied (Unread number fault) = ⊥
IsBeginRefusal Denied copied (Packed number fault) = ⊥
IsBeginRefusal Denied copied (WrongRange number) = ⊥
IsBeginRefusal Denied copied (Unwritten fault) =
    Denied (StartManifest copied.next (manifest_of copied)) fault
IsBeginRefusal Denied copied TooLarge = ⊥
IsBeginRefusal Denied copied SequencesSpent = ⊥
IsBeginRefusal Denied copied NumbersSpent = copied.next ≡ 2 ^ 64 - 1
IsBeginRefusal Denied copied (Replay fault) = IsRefused (begun_edit copied ∷ []) fault
