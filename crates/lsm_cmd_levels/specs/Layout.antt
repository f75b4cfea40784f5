-- What a run of `levels` comes to, for the words of its command line: this project's rule. It is
-- about a folder that was opened at the path of these words, and about a shelf on its place; that
-- such a shelf is the run's own is to be read.
use Rattle.std.specs.Prelude.{◌≡◌, ◌⊎◌, ℕ, Bool, IsTrue, List, Option}
use Rattle.std.specs.Io.KnownBytes.{Appends, Keeps}
use Rattle.lsm_folder.specs.declared.folder_calls.FolderCalls.{Ghosts}
use Rattle.lsm_manifest.specs.declared.shape.Shape.{Shape}
use Rattle.lsm_shelf.specs.Asked.{Asked}
use Rattle.lsm_shelf.specs.Refusals.{MayRefuse}
use Rattle.lsm_shelf.specs.Told.{Told, Becomes, finding}
use Rattle.lsm_shelf.specs.declared.shelf_fault.ShelfFault.{ShelfFault}
use Rattle.lsm_shelf.specs.declared.shelf_fault.ShelfFault.TheVariants as shelf_faults
use Rattle.lsm_storage.specs.declared.file.file_shelf.FileShelf.{FileShelf}
use Rattle.lsm_journal.specs.HeldManifest.{HeldManifest}
use Rattle.lsm_journal.specs.Recovering.{IsRecovered, IsRecoverRefusal}
use Rattle.lsm_journal.specs.declared.recover_fault.RecoverFault.TheVariants as recover_faults
use Rattle.lsm_text.specs.Printing.{Begins}
use Rattle.lsm_text.specs.declared.form.Form.{Form}
use Rattle.lsm_directory.specs.Folders.{IsShelfAt, told_by}
use Rattle.lsm_directory.specs.Holding.{IsFolderFault}
use Rattle.lsm_directory.specs.Logs.{NoneUnread}
use Rattle.lsm_directory.specs.Rest.{IsLeftOut, LeavesNothingOut}
use Rattle.lsm_directory.specs.declared.faults.directory_fault.DirectoryFault.{DirectoryFault}
use Rattle.lsm_directory.specs.declared.faults.directory_fault.DirectoryFault.TheVariants as why
use Rattle.lsm_directory.specs.declared.folder.folder_file.FolderFile.{FolderFile}
use Rattle.lsm_cmd_levels.specs.Drawing.{picture_text}
use Rattle.lsm_cmd_levels.specs.Dues.{IsDueNext}
use Rattle.lsm_cmd_levels.specs.Lines.{files_text, levels_text}
use Rattle.lsm_cmd_levels.specs.Listing.{TellsFiles}
use Rattle.lsm_cmd_levels.specs.Totals.{AreTotals}
use Rattle.lsm_cmd_levels.specs.declared.due.Due.{Due}
use Rattle.lsm_cmd_levels.specs.declared.totals.Totals.{Totals}
use Rattle.lsm_requests.specs.declared.levels_line.LevelsLine.{LevelsLine}
use Rattle.lsm_requests.specs.declared.levels_output.LevelsOutput.{LevelsOutput}
use Rattle.lsm_requests.specs.declared.levels_output.LevelsOutput.TheVariants.{Levels, Files, Svg}

-- ---- what is shown

abbrev pub text_of : Form → LevelsOutput → Shape → ℕ → Option Due → Totals → List ℕ
text_of form Levels s rest due totals = levels_text s rest due totals
text_of form Files s rest due totals = files_text form s rest due totals
text_of form Svg s rest due totals = picture_text form s rest due

-- The text shows the shape, with the compaction that is due next in it, and so many bytes at the
-- manifest's end that hold no whole record; and what the tables of the shape and these files of the
-- folder come to.
pub record IsShown (form : Form) (output : LevelsOutput) (s : Shape) (rest : ℕ)
    (files : List FolderFile) (text : List ℕ) : Type 0 where
  pub due : Option Due
  pub totals : Totals
  pub next : IsDueNext s due
  pub sums : AreTotals s files totals
  pub is : text ≡ text_of form output s rest due totals

abbrev pub Shows : Form → LevelsOutput → Shape → ℕ → List FolderFile → Option (List ℕ)
    → Option (List ℕ) → Type 0
Shows form output s rest files old new =
    (text : List ℕ) × IsShown form output s rest files text × Appends old new text

-- Memory was refused, and nothing was written; or a write failed, and a beginning of the text was.
abbrev pub IsUnshown : Form → LevelsOutput → Shape → ℕ → List FolderFile → DirectoryFault
    → Option (List ℕ) → Option (List ℕ) → Type 0
IsUnshown form output s rest files why.OutOfMemory old new = Keeps old new
IsUnshown form output s rest files why.Write old new =
    (text : List ℕ) × IsShown form output s rest files text × Begins old new text
IsUnshown form output s rest files (why.Manifest fault) old new = ⊥
IsUnshown form output s rest files (why.Shelf fault) old new = ⊥
IsUnshown form output s rest files (why.Tables fault) old new = ⊥
IsUnshown form output s rest files (why.Read fault) old new = ⊥
IsUnshown form output s rest files why.NumbersSpent old new = ⊥
IsUnshown form output s rest files why.Locked old new = ⊥
IsUnshown form output s rest files (why.UnflushedLog number) old new = ⊥
IsUnshown form output s rest files (why.TornManifest torn) old new = ⊥
IsUnshown form output s rest files (why.LaterManifest later) old new = ⊥
IsUnshown form output s rest files why.RocksDbFiles old new = ⊥
IsUnshown form output s rest files why.Absent old new = ⊥

-- ---- a shelf

-- The manifest that the directory names was read, and nothing else was asked of the shelf. It is
-- edits that come to the shape, and so many bytes at its end hold no whole record.
pub record Names (was is : Told) (s : Shape) (rest : ℕ) : Type 0 where
  pub held : HeldManifest
  pub recovered : IsRecovered held s rest
  pub told : Becomes (finding held.number held.bytes was) is

-- The manifest could not be read.
abbrev pub IsNotNamed : (Asked → ShelfFault → Type 0) → DirectoryFault → Told → Told → Type 0
IsNotNamed Refused (why.Manifest fault) was is = IsRecoverRefusal Refused fault was is
IsNotNamed Refused why.OutOfMemory was is = ⊥
IsNotNamed Refused why.Write was is = ⊥
IsNotNamed Refused (why.Shelf fault) was is = ⊥
IsNotNamed Refused (why.Tables fault) was is = ⊥
IsNotNamed Refused (why.Read fault) was is = ⊥
IsNotNamed Refused why.NumbersSpent was is = ⊥
IsNotNamed Refused why.Locked was is = ⊥
IsNotNamed Refused (why.UnflushedLog number) was is = ⊥
IsNotNamed Refused (why.TornManifest rest) was is = ⊥
IsNotNamed Refused (why.LaterManifest later) was is = ⊥
IsNotNamed Refused why.RocksDbFiles was is = ⊥
IsNotNamed Refused why.Absent was is = ⊥

-- That shape was shown with these files of the folder, and nothing is left out where that is asked
-- for; and where the manifest ends with a whole record and there is no log to note, standard error
-- is as it was.
pub record IsLaidOut (form : Form) (output : LevelsOutput) (strict : Bool)
    (files : List FolderFile) (was is : Told) (old new said_old said_new : Option (List ℕ))
    : Type 0 where
  pub shape : Shape
  pub rest : ℕ
  pub named : Names was is shape rest
  pub whole : IsTrue strict → LeavesNothingOut rest shape.log shape.prev_log files
  pub shown : Shows form output shape rest files old new
  pub quiet : rest ≡ 0 → NoneUnread shape.log shape.prev_log files → Keeps said_old said_new

-- What a fault says: the manifest could not be read, and nothing was written; or it was read, and
-- something is left out that is not to be, and nothing was written, or its shape could not be
-- shown.
abbrev pub IsLayoutFault : (Asked → ShelfFault → Type 0) → Form → LevelsOutput → Bool
    → List FolderFile → DirectoryFault → Told → Told → Option (List ℕ) → Option (List ℕ) → Type 0
IsLayoutFault Refused form output strict files fault was is old new =
    (IsNotNamed Refused fault was is × Keeps old new)
    ⊎ ((s : Shape) × (rest : ℕ) × Names was is s rest
    × ((IsTrue strict × IsLeftOut rest s.log s.prev_log files fault × Keeps old new)
    ⊎ IsUnshown form output s rest files fault old new))

-- The manifest that the directory names was not there: it is lost, or another program began a new
-- one after `CURRENT` was read, and removed that one.
abbrev pub IsGone : DirectoryFault → Type 0
IsGone fault = fault ≡ why.Manifest (recover_faults.Shelf shelf_faults.Missing)

-- Between these moments the shelf was asked for its manifest at most.
abbrev pub ReadsManifest : Told → Told → Type 0
ReadsManifest was is = Becomes was is
    ⊎ ((number : ℕ) × (bytes : List ℕ) × Becomes (finding number bytes was) is)

-- ---- a folder

module _ {C M : Type 0} (folders : Ghosts C M) where
  -- These files with their sizes were found in the folder at the path, and no lock was asked for.
  -- On a shelf of it the command was done.
  pub record LaysOutAt (line : LevelsLine) (old new said_old said_new : Option (List ℕ))
      : Type 0 where
    pub files : List FolderFile
    pub begun : FileShelf C M
    pub on : IsShelfAt folders line.path.now (TellsFiles files) begun
    pub ended : FileShelf C M
    pub done : IsLaidOut line.form line.output line.strict files (told_by folders begun)
        (told_by folders ended) old new said_old said_new

  -- That was so, and on the shelf this fault was met.
  pub record FailsAt (line : LevelsLine) (fault : DirectoryFault) (old new : Option (List ℕ))
      : Type 0 where
    pub files : List FolderFile
    pub begun : FileShelf C M
    pub on : IsShelfAt folders line.path.now (TellsFiles files) begun
    pub ended : FileShelf C M
    pub says : IsLayoutFault MayRefuse line.form line.output line.strict files fault
        (told_by folders begun) (told_by folders ended) old new
    pub reads : ReadsManifest (told_by folders begun) (told_by folders ended)

  -- memory ran out, or the folder was not opened or looked at, and nothing was written; or what is
  -- above
  abbrev pub FailsToLayOut : LevelsLine → DirectoryFault → (old new : Option (List ℕ)) → Type 0
  FailsToLayOut line fault old new =
      ((IsFolderFault fault ⊎ (fault ≡ why.OutOfMemory)) × Keeps old new)
      ⊎ FailsAt line fault old new
