-- What stands on standard output after a command on a directory, and what its faults say: this
-- project's rule.
use Rattle.std.specs.Prelude.{◌≡◌, ◌≢◌, ◌⊎◌, ◌<◌, ℕ, Bool, true, false, IsFalse, List, [], ◌++◌}
use Rattle.std.specs.Prelude.{IsTrue, Option, Some, None, ⊤}
use Rattle.std.specs.Io.KnownBytes.{Appends, Keeps}
use Rattle.lsm_codec.specs.Entries.{answer}
use Rattle.lsm_shelf.specs.Asked.{Asked}
use Rattle.lsm_shelf.specs.declared.shelf_fault.ShelfFault.{ShelfFault}
use Rattle.lsm_shelf.specs.Told.{Told}
use Rattle.lsm_table.specs.ReadFault.{IsMemoryOrShelf, ReadCounted}
use Rattle.lsm_model.specs.Files.{all_entries}
use Rattle.lsm_version.specs.Versions.{Levels, files}
use Rattle.lsm_requests.specs.declared.directory_command.DirectoryCommand.{DirectoryCommand}
use Rattle.lsm_requests.specs.declared.directory_command.DirectoryCommand.TheVariants.{
  Check,
  List as ListFiles,
  Get,
  Scan,
}
use Rattle.lsm_text.specs.declared.form.Form.{Form}
use Rattle.lsm_requests.specs.declared.get_output.GetOutput.TheVariants.{Line}
use Rattle.lsm_cmd_read.specs.Directory.{AreGiven, Holds}
use Rattle.lsm_cmd_read.specs.Listing.{IsChecked, list_text, shown_answer}
use Rattle.lsm_directory.specs.Beside.{IsFirstLeftOut, IsPlain, IsWhole, beside_text}
use Rattle.lsm_directory.specs.Logs.{AppendsLogs, note_line}
use Rattle.lsm_directory.specs.Rest.{rest_note}
use Rattle.lsm_cmd_read.specs.Scanned.{LeavesScan, PrintsScan}
use Rattle.lsm_cmd_read.specs.Opening.{IsOpenRefusal}
use Rattle.lsm_directory.specs.declared.folder.beside.Beside.{Beside}
use Rattle.lsm_directory.specs.declared.folder.folder_file.FolderFile.{FolderFile}
use Rattle.lsm_directory.specs.declared.folder.named_manifest.NamedManifest.{NamedManifest}
use Rattle.lsm_directory.specs.declared.faults.directory_fault.DirectoryFault.{DirectoryFault}
use Rattle.lsm_directory.specs.declared.faults.directory_fault.DirectoryFault.TheVariants.{
  OutOfMemory,
  Write,
  Shelf,
  Manifest,
  Tables,
  Read,
  NumbersSpent,
  Locked,
  UnflushedLog,
  TornManifest,
  LaterManifest,
  RocksDbFiles,
  Absent,
}
use Rattle.lsm_requests.specs.declared.directory_line.DirectoryLine.{DirectoryLine}
use Rattle.lsm_cmd_read.specs.declared.inquiry.Inquiry.{Inquiry}

-- ---- what is asked, and the moments before and after

-- what is asked: a command, with the form of keys and values, of a folder in which this lies beside
-- the tables; whether it is refused where something is not read, and whether it tells how far it is
pub record Asking : Type 0 where
  pub command : DirectoryCommand
  pub form : Form
  pub beside : Beside
  pub strict : Bool
  pub progress : Bool

-- what an inquiry asks
abbrev pub asking : Inquiry → Asking
asking i = record {
  command = i.command.now;
  form = i.form;
  beside = i.beside.now;
  strict = i.strict;
  progress = i.progress;
}

-- what a line asks of a folder in which this lies beside the tables
abbrev pub asked_by : DirectoryLine → Beside → Asking
asked_by line beside = record {
  command = line.command;
  form = line.form;
  beside = beside;
  strict = line.strict;
  progress = line.progress;
}

-- a moment: what the shelf was told, and what stands on standard output
pub record Moment : Type 0 where
  pub told : Told
  pub out : Option (List ℕ)

abbrev pub moment : Told → Option (List ℕ) → Moment
moment told out = record { told = told; out = out }

-- ---- what is written

-- what a command writes for a version, for its manifest, and for what lies beside the tables
abbrev pub Prints : Form → DirectoryCommand → Levels → NamedManifest → Beside → Option (List ℕ)
    → Option (List ℕ) → Type 0
Prints form (Check workers) v m beside old new =
    (text : List ℕ) × IsChecked v m beside text × Appends old new text
Prints form ListFiles v m beside old new = Appends old new (list_text form v)
Prints form (Get key output) v m beside old new =
    (text : List ℕ) × (shown_answer form output (answer (all_entries (files v)) key v.last)
    ≡ Some text) × Appends old new text
Prints form (Scan options) v m beside old new = PrintsScan form options v old new

-- What the text of a command relies on. A `get` and a `scan` read tables again, and rely on an
-- honest shelf. What `check` and `list` print is of the tables that were read, whatever the shelf
-- is.
abbrev pub ReliesOn : Type 0 → DirectoryCommand → Type 0
ReliesOn Honest (Check workers) = ⊤
ReliesOn Honest ListFiles = ⊤
ReliesOn Honest (Get key output) = Honest
ReliesOn Honest (Scan options) = Honest

-- To a text a note was added of so many bytes at the manifest's end, where there are any.
abbrev pub AppendsRest : ℕ → (old new : List ℕ) → Type 0
AppendsRest rest old new =
    ((rest ≡ 0) × (new ≡ old)) ⊎ ((0 < rest) × (new ≡ old ++ rest_note rest))

-- Notes were written: of the manifest's end, of a later manifest and of files of RocksDB, and of
-- each log among these that is not read.
abbrev pub WritesNotes : NamedManifest → Beside → (logs : List FolderFile) → Option (List ℕ)
    → Option (List ℕ) → Type 0
WritesNotes m beside logs old new =
    (text : List ℕ) × ((note : List ℕ) × AppendsRest m.rest [] note
    × AppendsLogs note_line m.log m.prev_log logs (note ++ beside_text m.number beside) text)
    × Appends old new text

-- Of the manifest, and of what lies beside the tables, a command says nothing on standard error. It
-- notes whatever is not read; but a check says of logs what it has to say on standard output.
abbrev pub HasNoNote : DirectoryCommand → NamedManifest → Beside → Type 0
HasNoNote (Check workers) m beside = IsPlain m.number beside × (m.rest ≡ 0)
HasNoNote ListFiles m beside = IsWhole m beside
HasNoNote (Get key output) m beside = IsWhole m beside
HasNoNote (Scan options) m beside = IsWhole m beside

-- Standard error is kept where no progress is asked for and there is nothing to note.
abbrev pub IsQuiet : DirectoryCommand → Bool → NamedManifest → Beside → Option (List ℕ)
    → Option (List ℕ) → Type 0
IsQuiet command progress m beside old new =
    IsFalse progress → HasNoNote command m beside → Keeps old new

-- The shelf's directory holds a version, of which nothing is left out where that is asked for; what
-- the command prints of it was written on standard output (by `get` and `scan`, over an honest
-- shelf), and standard error is quiet.
pub record IsLookedInto (asked : Asking) (Honest : Type 0) (before after : Moment)
    (said_old said_new : Option (List ℕ)) : Type 0 where
  pub version : Levels
  pub manifest : NamedManifest
  pub holds : Holds Honest before.told after.told version manifest
  pub whole : IsTrue asked.strict → IsWhole manifest asked.beside
  pub printed : ReliesOn Honest asked.command
      → Prints asked.form asked.command version manifest asked.beside before.out after.out
  pub quiet : IsQuiet asked.command asked.progress manifest asked.beside said_old said_new

-- So it is of a version whose tables the shelf gave.
pub record IsLookedIntoAsGiven (asked : Asking) (Stored : ℕ → List ℕ → Type 0) (Honest : Type 0)
    (before after : Moment) (said_old said_new : Option (List ℕ)) : Type 0 where
  pub looked : IsLookedInto asked Honest before after said_old said_new
  pub given : AreGiven Stored looked.version

-- the directory holds a version, and the shelf gave its tables
abbrev pub HoldsVersion : (ℕ → List ℕ → Type 0) → Type 0 → Told → Told → Levels → Type 0
HoldsVersion Stored Honest was is v =
    (m : NamedManifest) × Holds Honest was is v m × AreGiven Stored v

-- A read of a key that is not to print a line says that it is absent: over an honest shelf it has
-- no answer at the last sequence.
abbrev pub SaysAbsent : Type 0 → DirectoryCommand → Levels → Type 0
SaysAbsent Honest (Check workers) v = ⊥
SaysAbsent Honest ListFiles v = ⊥
SaysAbsent Honest (Get key output) v =
    (output ≢ Line) × (Honest → answer (all_entries (files v)) key v.last ≡ None)
SaysAbsent Honest (Scan options) v = ⊥

-- Nothing is to be left out, and of the version that the directory holds this is.
abbrev pub LeavesOut : Asking → (ℕ → List ℕ → Type 0) → Type 0 → DirectoryFault → Told → Told
    → Type 0
LeavesOut asked Stored Honest fault was is =
    IsTrue asked.strict
    × ((v : Levels) × (m : NamedManifest) × Holds Honest was is v m × AreGiven Stored v
    × IsFirstLeftOut m asked.beside fault)

-- What a fault says of the directory: the first fault that opening it meets; or it was opened, and
-- something is left out that is not to be, a write failed, or the shelf did, or the key is absent.
-- Want of memory says nothing.
abbrev pub IsLookFault : Asking → (ℕ → List ℕ → Type 0) → (Asked → ShelfFault → Type 0) → Type 0
    → DirectoryFault → Told → Told → Type 0
IsLookFault asked Stored Refused Honest OutOfMemory was is = ⊤
IsLookFault asked Stored Refused Honest Write was is =
    (v : Levels) × HoldsVersion Stored Honest was is v
IsLookFault asked Stored Refused Honest (Shelf fault) was is =
    IsOpenRefusal Stored Refused Honest (Shelf fault) was is
IsLookFault asked Stored Refused Honest (Manifest fault) was is =
    IsOpenRefusal Stored Refused Honest (Manifest fault) was is
IsLookFault asked Stored Refused Honest (Tables fault) was is =
    IsOpenRefusal Stored Refused Honest (Tables fault) was is
IsLookFault asked Stored Refused Honest (Read fault) was is =
    (v : Levels) × HoldsVersion Stored Honest was is v × (Honest → IsMemoryOrShelf fault)
    × ReadCounted fault was is
IsLookFault asked Stored Refused Honest NumbersSpent was is =
    IsOpenRefusal Stored Refused Honest NumbersSpent was is
IsLookFault asked Stored Refused Honest Locked was is = ⊥
IsLookFault asked Stored Refused Honest (UnflushedLog number) was is =
    LeavesOut asked Stored Honest (UnflushedLog number) was is
IsLookFault asked Stored Refused Honest (TornManifest torn) was is =
    LeavesOut asked Stored Honest (TornManifest torn) was is
IsLookFault asked Stored Refused Honest (LaterManifest later) was is =
    LeavesOut asked Stored Honest (LaterManifest later) was is
IsLookFault asked Stored Refused Honest RocksDbFiles was is =
    LeavesOut asked Stored Honest RocksDbFiles was is
IsLookFault asked Stored Refused Honest Absent was is =
    (v : Levels) × HoldsVersion Stored Honest was is v × SaysAbsent Honest asked.command v

-- What is written of a version before a fault that is no failed write: nothing, or, by a scan and
-- over an honest shelf, its first lines.
abbrev pub PrintsBefore : Form → DirectoryCommand → Type 0 → Levels → Option (List ℕ)
    → Option (List ℕ) → Type 0
PrintsBefore form (Check workers) Honest v old new = Keeps old new
PrintsBefore form ListFiles Honest v old new = Keeps old new
PrintsBefore form (Get key output) Honest v old new = Keeps old new
PrintsBefore form (Scan options) Honest v old new = LeavesScan form options Honest v old new

-- What a fault leaves on standard output: nothing where the directory could not be opened.
abbrev pub Leaves : Asking → (ℕ → List ℕ → Type 0) → Type 0 → DirectoryFault
    → (before after : Moment) → Type 0
Leaves asked Stored Honest OutOfMemory before after =
    Keeps before.out after.out
    ⊎ ((v : Levels) × HoldsVersion Stored Honest before.told after.told v
    × PrintsBefore asked.form asked.command Honest v before.out after.out)
Leaves asked Stored Honest Write before after = ⊤
Leaves asked Stored Honest (Shelf fault) before after = Keeps before.out after.out
Leaves asked Stored Honest (Manifest fault) before after = Keeps before.out after.out
Leaves asked Stored Honest (Tables fault) before after = Keeps before.out after.out
Leaves asked Stored Honest (Read fault) before after =
    (v : Levels) × HoldsVersion Stored Honest before.told after.told v
    × PrintsBefore asked.form asked.command Honest v before.out after.out
Leaves asked Stored Honest NumbersSpent before after = Keeps before.out after.out
Leaves asked Stored Honest Locked before after = Keeps before.out after.out
Leaves asked Stored Honest (UnflushedLog number) before after = Keeps before.out after.out
Leaves asked Stored Honest (TornManifest rest) before after = Keeps before.out after.out
Leaves asked Stored Honest (LaterManifest later) before after = Keeps before.out after.out
Leaves asked Stored Honest RocksDbFiles before after = Keeps before.out after.out
Leaves asked Stored Honest Absent before after = Keeps before.out after.out

-- What a refusal is: what the fault says of the directory, and what it leaves on standard output.
pub record IsNotLookedInto (asked : Asking) (Stored : ℕ → List ℕ → Type 0)
    (Refused : Asked → ShelfFault → Type 0) (Honest : Type 0) (fault : DirectoryFault)
    (before after : Moment) : Type 0 where
  pub says : IsLookFault asked Stored Refused Honest fault before.told after.told
  pub left : Leaves asked Stored Honest fault before after

-- a command whose refusals name the file of a table
abbrev pub names_files : DirectoryCommand → Bool
names_files (Check workers) = true
names_files ListFiles = false
names_files (Get key output) = false
names_files (Scan options) = true

-- ---- how the code shows it

-- why a command on a directory that is open ends with a fault
abbrev pub IsPerformFault : Type 0 → DirectoryCommand → Levels → DirectoryFault → Told → Told
    → Type 0
IsPerformFault Honest command v OutOfMemory was is = ⊤
IsPerformFault Honest command v Write was is = ⊤
IsPerformFault Honest command v (Shelf fault) was is = ⊥
IsPerformFault Honest command v (Manifest fault) was is = ⊥
IsPerformFault Honest command v (Tables fault) was is = ⊥
IsPerformFault Honest command v (Read fault) was is =
    (Honest → IsMemoryOrShelf fault) × ReadCounted fault was is
IsPerformFault Honest command v NumbersSpent was is = ⊥
IsPerformFault Honest command v Locked was is = ⊥
IsPerformFault Honest command v (UnflushedLog number) was is = ⊥
IsPerformFault Honest command v (TornManifest rest) was is = ⊥
IsPerformFault Honest command v (LaterManifest later) was is = ⊥
IsPerformFault Honest command v RocksDbFiles was is = ⊥
IsPerformFault Honest command v Absent was is = SaysAbsent Honest command v
