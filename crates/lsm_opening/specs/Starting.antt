-- The state with which a command or the server begins (this project's rule).
use Rattle.std.specs.Prelude.{◌≡◌, ℕ, ◌-◌, ◌^◌, ◌⊎◌, false, List, []}
use Rattle.lsm_pins.specs.Known.{Known}
use Rattle.lsm_shelf.specs.Asked.{Asked}
use Rattle.lsm_shelf.specs.declared.shelf_fault.ShelfFault.{ShelfFault}
use Rattle.lsm_shelf.specs.Told.{Told, Becomes, Rose, finding, sending}
use Rattle.lsm_manifest.specs.Shape.{Form}
use Rattle.lsm_journal.specs.HeldManifest.{HeldManifest}
use Rattle.lsm_journal.specs.Recovering.{IsRecovered, IsRecoverRefusal, RecoverCounted}
use Rattle.lsm_journal.specs.Sending.{CreateCountedUnder, IsCreateAskedUnder, IsCreateRefusalUnder}
use Rattle.lsm_journal.specs.declared.open_fault.OpenFault.{OpenFault}
use Rattle.lsm_journal.specs.declared.recover_fault.RecoverFault.{RecoverFault}
use Rattle.lsm_state.specs.Held.{Held}
use Rattle.lsm_state.specs.Making.{created_state_under}
use Rattle.lsm_state.specs.Opening.{IsBegun, IsOpenRefusal, IsReadOnce, opened_state}
use Rattle.lsm_state.specs.Options.{limit_of}
use Rattle.lsm_state.specs.declared.options.Options.{Options}
use Rattle.lsm_directory.specs.Logs.{IsFirstUnread, NoneUnread}
use Rattle.lsm_directory.specs.declared.faults.directory_fault.DirectoryFault.TheVariants.{NumbersSpent}
use Rattle.lsm_directory.specs.declared.folder.folder_file.FolderFile.{FolderFile}
use Rattle.lsm_opening.specs.Parts.{usual}
use Rattle.lsm_opening.specs.WriterFault.{of_manifest, of_open, of_shelf}
use Rattle.lsm_opening.specs.declared.prepared.Start.{Start}
use Rattle.lsm_opening.specs.declared.prepared.Start.TheVariants.{Open, Begin}
use Rattle.lsm_opening.specs.declared.faults.writer_fault.WriterFault.{WriterFault}
use Rattle.lsm_opening.specs.declared.faults.writer_fault.WriterFault.TheVariants.{OutOfMemory}
use Rattle.lsm_opening.specs.declared.faults.writer_fault.WriterFault.TheVariants.{Directory}
use Rattle.lsm_opening.specs.declared.faults.writer_fault.WriterFault.TheVariants.{UnflushedLog}

-- ---- the manifest that is there is read first

-- The manifest was read, and nothing else was asked for; of what it comes to this holds.
pub record IsRead (Holds : Form → Type 0) (was is : Told) : Type 0 where
  pub held : HeldManifest
  pub shape : Form
  pub rest : ℕ
  pub recovered : IsRecovered held shape rest
  pub told : Becomes (finding held.number held.bytes was) is
  pub holds : Holds shape

-- by the manifest's numbers none of these logs is one that LevelDB would read
abbrev pub FindsFlushed : List FolderFile → Told → Told → Type 0
FindsFlushed logs was is = IsRead (λ shape. NoneUnread shape.log shape.prev_log logs) was is

-- The manifest could not be read; or by its numbers this is the first of the logs that LevelDB
-- would read.
abbrev pub IsUnflushed : (Asked → ShelfFault → Type 0) → List FolderFile → WriterFault → Told
    → Told → Type 0
IsUnflushed Refused logs e was is =
    ((fault : RecoverFault) × (e ≡ of_manifest fault) × IsRecoverRefusal Refused fault was is
    × RecoverCounted fault was is)
    ⊎ ((n : ℕ) × (e ≡ UnflushedLog n)
    × IsRead (λ shape. IsFirstUnread shape.log shape.prev_log logs n) was is)

-- ---- with these options

-- The state of a new database, whose manifest of this number was sent; the shelf had no manifest.
pub record IsNewWith (o : Options) (number : ℕ) (h : Held) (was is : Told) : Type 0 where
  pub publisher : Known
  pub pinners : List Known
  pub state : h ≡ created_state_under number o publisher pinners
  pub sent : Becomes (sending number h.journal.bytes was) is
  pub missing : Rose was.misses is.misses

-- The state of the database that was there, whose version a new manifest spells, which was sent.
pub record IsReopenedWith (Honest : Type 0) (o : Options) (h : Held) (was is : Told)
    : Type 0 where
  pub publisher : Known
  pub pinners : List Known
  pub state : h ≡ opened_state o publisher pinners h.slots.version h.journal h.next false
  pub begun : IsBegun Honest (limit_of o) h.journal h.slots.version h.next was is

-- The database that was there was opened, beside logs that are flushed.
pub record OpensWith (Honest : Type 0) (o : Options) (logs : List FolderFile) (h : Held)
    (was is : Told) : Type 0 where
  pub mid : Told
  pub found : FindsFlushed logs was mid
  pub opened : IsReopenedWith Honest o h mid is

-- It was opened so, or one was begun beside no log but empty ones: LevelDB would read each.
abbrev pub IsStartedWith : Type 0 → Options → Start → List FolderFile → Held → Told → Told
    → Type 0
IsStartedWith Honest o Open logs h was is = OpensWith Honest o logs h was is
IsStartedWith Honest o (Begin number) logs h was is =
    NoneUnread 0 0 logs × IsNewWith o number h was is

-- Why there is no database on the shelf: no number is left; or its refusal, which call that was,
-- and what it counted.
abbrev pub IsUncreated : ℕ → (Asked → ShelfFault → Type 0) → WriterFault → Told → Told → Type 0
IsUncreated number Refused e was is =
    ((e ≡ Directory NumbersSpent) × (number ≡ 2 ^ 64 - 1) × (is ≡ was))
    ⊎ ((fault : ShelfFault) × (e ≡ of_shelf fault) × IsCreateRefusalUnder number fault was is
    × IsCreateAskedUnder number Refused fault was is × CreateCountedUnder number fault was is)

-- Why none is begun: this is the first of the logs that LevelDB would read in a new database, and
-- the shelf was asked for nothing; or that.
abbrev pub IsUnbegun : ℕ → List FolderFile → (Asked → ShelfFault → Type 0) → WriterFault → Told
    → Told → Type 0
IsUnbegun number logs Refused e was is =
    ((n : ℕ) × (e ≡ UnflushedLog n) × IsFirstUnread 0 0 logs n × (is ≡ was))
    ⊎ IsUncreated number Refused e was is

-- Why the database that is there was not opened, once its manifest was read.
abbrev pub IsNotReopenedWith : (ℕ → List ℕ → Type 0) → (Asked → ShelfFault → Type 0) → Type 0
    → Options → WriterFault → Told → Told → Type 0
IsNotReopenedWith Stored Refused Honest o e was is =
    (fault : OpenFault) × (e ≡ of_open fault)
    × IsOpenRefusal Stored Refused Honest (limit_of o) fault was is × IsReadOnce fault was is

-- Why it was not, with what the logs beside it may have to do with that.
abbrev pub IsNotOpenedWith : (ℕ → List ℕ → Type 0) → (Asked → ShelfFault → Type 0) → Type 0
    → Options → List FolderFile → WriterFault → Told → Told → Type 0
IsNotOpenedWith Stored Refused Honest o logs e was is =
    IsUnflushed Refused logs e was is
    ⊎ ((mid : Told) × FindsFlushed logs was mid
    × IsNotReopenedWith Stored Refused Honest o e mid is)

-- memory ran out before the shelf was asked for anything
abbrev pub IsOutOfMemory : WriterFault → Told → Told → Type 0
IsOutOfMemory e was is = (e ≡ OutOfMemory) × (is ≡ was)

-- Why there is no such state. `Stored` says which images the shelf gave for which numbers,
-- `Refused` which calls it may refuse with which faults.
abbrev pub IsStartRefusalWith : (ℕ → List ℕ → Type 0) → (Asked → ShelfFault → Type 0) → Type 0
    → Options → Start → List FolderFile → WriterFault → Told → Told → Type 0
IsStartRefusalWith Stored Refused Honest o Open logs e was is =
    IsNotOpenedWith Stored Refused Honest o logs e was is
IsStartRefusalWith Stored Refused Honest o (Begin number) logs e was is =
    IsUnbegun number logs Refused e was is

-- ---- with the usual options

abbrev pub IsNew : ℕ → Held → Told → Told → Type 0
IsNew number h was is = IsNewWith usual number h was is

abbrev pub Opens : Type 0 → Held → Told → Told → Type 0
Opens Honest h was is = OpensWith Honest usual [] h was is

abbrev pub IsStarted : Type 0 → Start → List FolderFile → Held → Told → Told → Type 0
IsStarted Honest start logs h was is = IsStartedWith Honest usual start logs h was is

-- Memory ran out before the shelf was asked for anything; or no database was begun so.
abbrev pub IsBeginRefusal : ℕ → (Asked → ShelfFault → Type 0) → WriterFault → Told → Told → Type 0
IsBeginRefusal number Refused e was is =
    IsOutOfMemory e was is ⊎ IsUncreated number Refused e was is

-- That; or the one that is there was not opened so.
abbrev pub IsOpeningRefusal : (ℕ → List ℕ → Type 0) → (Asked → ShelfFault → Type 0) → Type 0
    → WriterFault → Told → Told → Type 0
IsOpeningRefusal Stored Refused Honest e was is =
    IsOutOfMemory e was is ⊎ IsNotOpenedWith Stored Refused Honest usual [] e was is

-- That; or it was neither.
abbrev pub IsStartRefusal : (ℕ → List ℕ → Type 0) → (Asked → ShelfFault → Type 0) → Type 0
    → Start → List FolderFile → WriterFault → Told → Told → Type 0
IsStartRefusal Stored Refused Honest start logs e was is =
    IsOutOfMemory e was is ⊎ IsStartRefusalWith Stored Refused Honest usual start logs e was is
