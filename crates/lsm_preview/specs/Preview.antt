-- A database seen as `lsm recover` and `lsm import` would leave it, with nothing written (LevelDB's
-- `doc/impl.md`, "Recovery", and `DBImpl::RecoverLogFile`; that it is seen so is this project's
-- rule).
use Rattle.std.specs.Prelude.{◌≡◌, ◌⊎◌, ◌↔◌, ℕ, ◌<◌, Bool, true, false, IsTrue, List, [], ◌∷◌}
use Rattle.std.specs.Prelude.{◌++◌, length, All, Option, Some, None}
use Rattle.lsm_codec.specs.Lists.{Has}
use Rattle.lsm_codec.specs.Entries.{Entry}
use Rattle.lsm_folder.specs.Calls.{Call}
use Rattle.lsm_shelf.specs.Asked.{Asked, ListTables}
use Rattle.lsm_shelf.specs.Told.{Becomes, Told, listing}
use Rattle.lsm_shelf.specs.declared.shelf_fault.ShelfFault.{ShelfFault}
use Rattle.lsm_manifest.specs.EditFit.{Change}
use Rattle.lsm_manifest.specs.EditWriting.{edit_text}
use Rattle.lsm_manifest.specs.LogWriting.{record_text}
use Rattle.lsm_manifest.specs.Manifest.{IsManifest}
use Rattle.lsm_manifest.specs.Replay.{FileAt}
use Rattle.lsm_manifest.specs.Shape.{Form, IsReplayed}
use Rattle.lsm_manifest.specs.WholeEdit.{whole_edit}
use Rattle.lsm_model.specs.Files.{File, all_entries}
use Rattle.lsm_verify.specs.CheckRefusal.{IsOfShape}
use Rattle.lsm_version.specs.Versions.{IsSound, Levels, files}
use Rattle.lsm_batch.specs.Batches.{entries_from}
use Rattle.lsm_wal.specs.declared.write_batch.WriteBatch.{WriteBatch}
use Rattle.lsm_directory.specs.declared.folder.folder_file.FolderFile.{FolderFile}
use Rattle.lsm_import.specs.Copied.{HasLogs, IsLogsRefusal, usual}
use Rattle.lsm_import.specs.LogTable.{NoneRefuses}
use Rattle.lsm_import.specs.Standing.{IsNotStanding, IsStanding}
use Rattle.lsm_import.specs.declared.copied.Copied.{Copied}
use Rattle.lsm_import.specs.declared.import_fault.ImportFault.{ImportFault}
use Rattle.lsm_import.specs.declared.log_table.LogTable.{LogTable}
use Rattle.lsm_log_files.specs.Logs.{AreLogs}
use Rattle.lsm_log_files.specs.Source.{IsNoSource, IsSource}
use Rattle.lsm_log_files.specs.declared.source_fault.SourceFault.{SourceFault}
use Rattle.lsm_mirror.specs.Shown.{IsBeside, IsShown, Shown, shown_of}
use Rattle.lsm_preview.specs.Tables.{AreNotPlain, AreShownFiles}
use Rattle.lsm_preview.specs.declared.seen.Preview.{Preview}
use Rattle.lsm_preview.specs.declared.preview_fault.PreviewFault.{PreviewFault}
use Rattle.lsm_preview.specs.declared.preview_fault.PreviewFault.TheVariants.{OutOfMemory, Unread}
use Rattle.lsm_preview.specs.declared.preview_fault.PreviewFault.TheVariants.{Unlisted, Unmade}
use Rattle.lsm_preview.specs.declared.sight.Sight.{Sight}

-- ---- the database as it stands

-- the files among which logs are looked for
abbrev pub looked_at : Bool → List FolderFile → List FolderFile
looked_at true files = files
looked_at false files = []

-- the one edit that spells the shape, with the shape's own numbers
abbrev pub unmoved : Form → Copied
unmoved shape =
    record { edit = whole_edit shape; next = shape.next; last = shape.last; writes = 0 }

-- the numbers of the logs, and behind them those of the tables that the shelf listed
abbrev pub AreTaken : (logs numbers : List ℕ) → Told → Told → Type 0
AreTaken logs numbers was is = (tables : List ℕ) × (numbers ≡ logs ++ tables)
    × Becomes (listing tables was) is

-- Where no log was read the database is as its manifest says. Else its next file number is above
-- the logs, the tables and what the shelf lists, and its manifest reads none of the logs.
abbrev pub IsBase : Form → (logs : List ℕ) → Copied → Told → Told → Type 0
IsBase shape [] base was is = (base ≡ unmoved shape) × Becomes was is
IsBase shape (n ∷ ns) base was is =
    (numbers : List ℕ) × AreTaken (n ∷ ns) numbers was is × IsStanding shape numbers base

-- the same with these tables
abbrev pub with_tables : Copied → List FileAt → Copied
with_tables copied files = record copied { edit = record copied.edit { added = files } }

-- ---- the view

-- number and image of a table that lies nowhere
abbrev pub pair_of : Option LogTable → Option (ℕ × List ℕ)
pair_of None = None
pair_of (Some table) = Some (table.number, table.image.items)

-- a table of this number and image is shown that lies nowhere
abbrev pub HasMade : Shown → ℕ → List ℕ → Type 0
HasMade shown number image = shown.made ≡ Some (number, image)

-- The tables of the database are shown, plain where they are to be; of each key that the logs write
-- the last write, in one table more; and a manifest of one edit that names just these. It has so
-- many entries of logs. `From` says which images the shelf holds under which numbers.
pub record IsView (From : ℕ → List ℕ → Type 0) (inflates : Bool) (shape : Form) (logs : List ℕ)
    (batches : List WriteBatch) (shown : Shown) (entries : ℕ) (was is : Told) : Type 0 where
  pub base : Copied
  pub stands : IsBase shape logs base was is
  pub tables : List FileAt
  pub files : AreShownFiles From inflates base.edit.added tables
  pub whole : Copied
  pub brought : HasLogs (HasMade shown) batches (with_tables base tables) whole
  pub none : whole ≡ with_tables base tables → shown.made ≡ None
  pub counted : entries ≡ length brought.batch
  pub bytes : shown.manifest ≡ record_text 0 (edit_text whole.edit)
  pub manifest : IsManifest shown.manifest (whole.edit ∷ []) 0
  pub plain : shown.inflates ≡ inflates

-- The manifest was read, and just the logs that LevelDB reads, if any are looked for; so many bytes
-- at their ends hold no whole record. This is a view of what they come to. The folder noted these
-- calls, and the shelf was told this, before and behind it.
pub record IsPreview (From : ℕ → List ℕ → Type 0) (sight : Sight) (files : List FolderFile)
    (preview : Preview) (old new : List Call) (was is : Told) : Type 0 where
  pub shape : Form
  pub batches : List WriteBatch
  pub count : ℕ
  pub mid : Told
  pub source :
      IsSource (looked_at sight.logs files) shape batches count preview.rest old new was mid
  pub logs : List ℕ
  pub those : AreLogs shape.log shape.prev_log (looked_at sight.logs files) logs
  pub view :
      IsView From sight.inflates shape logs batches (shown_of preview.view) preview.entries mid is

-- the entries that a view shows: the last writes of the logs, beside those of the tables
abbrev pub entries_with : {From : ℕ → List ℕ → Type 0} {inflates : Bool} {shape : Form}
    {logs : List ℕ} {batches : List WriteBatch} {shown : Shown} {entries : ℕ} {was is : Told}
    → IsView From inflates shape logs batches shown entries was is → List Entry → List Entry
entries_with view es = entries_from view.brought.first view.brought.batch ++ es

-- ---- a version that is read of a view

-- Each table of the version is one that is shown. `From` says which images the shelf below holds.
abbrev pub AreShownIn : (ℕ → List ℕ → Type 0) → Shown → Levels → Type 0
AreShownIn From shown v = All (All (λ t. IsShown From shown t.number t.image)) v.tables

-- the entries of all its tables
abbrev pub entries_of : Levels → List Entry
entries_of v = all_entries (files v)

-- these are the entries of those of the version's tables that lie on the shelf below
abbrev pub AreBelow : Shown → Levels → List Entry → Type 0
AreBelow shown v es = (e : Entry) → Has es e
    ↔ ((F : File) × Has (files v) F × Has F.entries e × IsBeside shown.made F.number)

-- The version was read of what the view shows: of its manifest, whose edits come to this shape, for
-- each file of which it has a table that is shown. It is sound.
pub record IsReadOf (From : ℕ → List ℕ → Type 0) (shown : Shown) (v : Levels) : Type 0 where
  pub edits : List Change
  pub rest : ℕ
  pub manifest : IsManifest shown.manifest edits rest
  pub shape : Form
  pub replayed : IsReplayed edits shape
  pub of_shape : IsOfShape shape v
  pub given : AreShownIn From shown v
  pub sound : IsSound v

-- ---- refusals

-- memory ran out, or the tables were not listed
abbrev pub IsUnlisted : (Asked → ShelfFault → Type 0) → PreviewFault → Type 0
IsUnlisted Denied fault = (fault ≡ OutOfMemory)
    ⊎ ((e : ShelfFault) × (fault ≡ Unlisted e) × Denied ListTables e)

-- Memory ran out; or there are logs, and the tables were not listed, or no file number is left.
abbrev pub IsNoBase : (Asked → ShelfFault → Type 0) → Form → (logs : List ℕ) → Told
    → PreviewFault → Type 0
IsNoBase Denied shape logs was fault = (fault ≡ OutOfMemory)
    ⊎ ((0 < length logs) × (IsUnlisted Denied fault
    ⊎ ((e : ImportFault) × (fault ≡ Unmade e) × ((numbers : List ℕ) × (is : Told)
    × AreTaken logs numbers was is × IsNotStanding shape numbers e))))

-- the tables are not shown plain; or they are shown, and the writes of the logs do not come in
abbrev pub IsUnshown : (ℕ → List ℕ → Type 0) → (Asked → ShelfFault → Type 0) → Bool → Copied
    → List WriteBatch → ImportFault → Type 0
IsUnshown From Denied inflates base batches fault =
    (IsTrue inflates × AreNotPlain From Denied base.edit.added fault)
    ⊎ ((tables : List FileAt) × AreShownFiles From inflates base.edit.added tables
    × IsLogsRefusal NoneRefuses usual batches (with_tables base tables) fault)

-- Why there is no view.
abbrev pub IsNoView : (ℕ → List ℕ → Type 0) → (Asked → ShelfFault → Type 0) → Bool → Form
    → (logs : List ℕ) → List WriteBatch → Told → PreviewFault → Type 0
IsNoView From Denied inflates shape logs batches was fault =
    IsNoBase Denied shape logs was fault
    ⊎ ((base : Copied) × (is : Told) × IsBase shape logs base was is
    × ((e : ImportFault) × (fault ≡ Unmade e) × IsUnshown From Denied inflates base batches e))

-- Why there is no preview: the manifest or a log was not read; or they were, and there is no view.
abbrev pub IsNoPreview : (ℕ → List ℕ → Type 0) → (Asked → ShelfFault → Type 0) → Sight
    → List FolderFile → PreviewFault → List Call → List Call → Told → Told → Type 0
IsNoPreview From Denied sight files fault old new was is =
    ((e : SourceFault) × (fault ≡ Unread e)
    × IsNoSource Denied (looked_at sight.logs files) e old new was is)
    ⊎ ((shape : Form) × (batches : List WriteBatch) × (count : ℕ) × (rest : ℕ) × (mid : Told)
    × (logs : List ℕ)
    × IsSource (looked_at sight.logs files) shape batches count rest old new was mid
    × AreLogs shape.log shape.prev_log (looked_at sight.logs files) logs
    × IsNoView From Denied sight.inflates shape logs batches mid fault)
