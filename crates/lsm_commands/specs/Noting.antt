-- What is noted of a folder that is written, before the command: this project's rule. It is about a
-- folder that was opened at the path of its words, and about a shelf on it; that these are the
-- run's own is to be read.
use Rattle.std.specs.Prelude.{◌≡◌, ◌⊎◌, ℕ, Bool, true, false, IsTrue, cond, if◌then◌else◌}
use Rattle.std.specs.Prelude.{nat_lt, List, [], ◌++◌, Option, Some, None}
use Rattle.std.specs.Io.KnownBytes.{Keeps}
use Rattle.lsm_folder.specs.declared.folder_calls.FolderCalls.{Ghosts}
use Rattle.lsm_shelf.specs.Refusals.{MayRefuse}
use Rattle.lsm_shelf.specs.Told.{Becomes, finding}
use Rattle.lsm_storage.specs.declared.file.file_shelf.FileShelf.{FileShelf}
use Rattle.lsm_manifest.specs.Shape.{Form}
use Rattle.lsm_journal.specs.HeldManifest.{HeldManifest}
use Rattle.lsm_journal.specs.Recovering.{IsRecovered, IsRecoverRefusal}
use Rattle.lsm_journal.specs.declared.recover_fault.RecoverFault.{RecoverFault}
use Rattle.lsm_journal.specs.declared.recover_fault.RecoverFault.TheVariants as recover_faults
use Rattle.lsm_shelf.specs.declared.shelf_fault.ShelfFault.TheVariants as shelf_faults
use Rattle.lsm_text.specs.Printing.{Begins}
use Rattle.lsm_directory.specs.Beside.{IsFirstLeftOut, IsWhole, LooksBeside, beside_text}
use Rattle.lsm_directory.specs.Folders.{IsShelfAt, told_by}
use Rattle.lsm_directory.specs.Holding.{IsFolderFault}
use Rattle.lsm_directory.specs.Rest.{rest_note}
use Rattle.lsm_directory.specs.declared.faults.directory_fault.DirectoryFault.{DirectoryFault}
use Rattle.lsm_directory.specs.declared.faults.directory_fault.DirectoryFault.TheVariants.{
  OutOfMemory,
  Manifest,
}
use Rattle.lsm_directory.specs.declared.folder.beside.Beside.{Beside}
use Rattle.lsm_directory.specs.declared.folder.named_manifest.NamedManifest.{NamedManifest}
use Rattle.lsm_grammar.specs.declared.request.Request.{Request}
use Rattle.lsm_grammar.specs.declared.request.Request.TheVariants.{Convert, Look, Levels}
use Rattle.lsm_grammar.specs.declared.request.Request.TheVariants.{Write as WriteFolder, Load}
use Rattle.lsm_grammar.specs.declared.request.Request.TheVariants.{Import, Recover, Repair, Compact}
use Rattle.lsm_grammar.specs.declared.request.Request.TheVariants.{Script, Shell, Bench}
use Rattle.lsm_grammar.specs.declared.shell_line.ShellLine.{ShellLine}

-- of a shell that only reads, and so notes itself, where nothing is to be left out
abbrev pub noted_by_shell : ShellLine → (strict : Bool) → Option (List ℕ × Bool)
noted_by_shell line strict =
    if line.reads_only then (if strict then Some (line.path.now, true) else None)
    else Some (line.path.now, false)

-- The folder that is looked at, of a command which writes in a database; and whether its logs
-- count: such a command says itself what it does beside them.
abbrev pub noted_by : Request → (strict : Bool) → Option (List ℕ × Bool)
noted_by (Convert conversion input) strict = None
noted_by (Look line) strict = None
noted_by (Levels line) strict = None
noted_by (WriteFolder line) strict = Some (line.path.now, false)
noted_by (Load line) strict = Some (line.path.now, false)
noted_by (Import line) strict = None
noted_by (Recover line) strict = Some (line.path.now, false)
noted_by (Repair path) strict = None
noted_by (Compact line) strict = Some (line.path.now, false)
noted_by (Script input) strict = None
noted_by (Shell line) strict = noted_by_shell line strict
noted_by (Bench line) strict = None

-- the note of so many bytes at the manifest's end, where there are any
abbrev pub rest_text : ℕ → List ℕ
rest_text rest = cond (nat_lt 0 rest) (rest_note rest) []

-- the notes of the manifest's end, of a later manifest and of files of RocksDB
abbrev pub notes : NamedManifest → Beside → List ℕ
notes m beside = rest_text m.rest ++ beside_text m.number beside

-- the same beside the tables, but no log
pub record IsButForLogs (seen beside : Beside) : Type 0 where
  pub manifest : beside.manifest ≡ seen.manifest
  pub rocksdb : beside.rocksdb ≡ seen.rocksdb
  pub logs : beside.logs.items ≡ []

-- what counts of what was seen there: logs or no log
abbrev pub Counts : Bool → (seen beside : Beside) → Type 0
Counts true seen beside = beside ≡ seen
Counts false seen beside = IsButForLogs seen beside

-- there is no manifest that `CURRENT` names: no database
abbrev pub IsNew : DirectoryFault → Type 0
IsNew fault = fault ≡ Manifest (recover_faults.Shelf shelf_faults.Missing)

module _ {C M : Type 0} (folders : Ghosts C M) where
  -- The folder at the path was looked at, and a shelf on it gave its manifest, with these numbers
  -- and so many bytes at its end that hold no whole record. This counts of what lies beside the
  -- tables. Nothing else was asked of the folder.
  pub record IsSeenAt (path : List ℕ) (logs : Bool) (m : NamedManifest) (beside : Beside)
      : Type 0 where
    pub seen : Beside
    pub begun : FileShelf C M
    pub on : IsShelfAt folders path (LooksBeside seen) begun
    pub ended : FileShelf C M
    pub held : HeldManifest
    pub shape : Form
    pub recovered : IsRecovered held shape m.rest
    pub told : Becomes (finding held.number held.bytes (told_by folders begun))
        (told_by folders ended)
    pub numbered : m.number ≡ held.number
    pub log : m.log ≡ held.log
    pub previous : m.prev_log ≡ held.prev_log
    pub counts : Counts logs seen beside

  -- It was looked at, and its manifest could not be read.
  pub record IsUnreadAt (path : List ℕ) (fault : DirectoryFault) : Type 0 where
    pub seen : Beside
    pub begun : FileShelf C M
    pub on : IsShelfAt folders path (LooksBeside seen) begun
    pub ended : FileShelf C M
    pub cause : RecoverFault
    pub is : fault ≡ Manifest cause
    pub why : IsRecoverRefusal MayRefuse cause (told_by folders begun) (told_by folders ended)

  -- Memory ran out; or the folder was not opened or looked at, as where another has its lock; or
  -- that was so.
  abbrev pub IsUnseenAt : List ℕ → DirectoryFault → Type 0
  IsUnseenAt path fault = (fault ≡ OutOfMemory) ⊎ (IsFolderFault fault ⊎ IsUnreadAt path fault)

  -- The folder was seen, and all of it is read where that is asked for. Its notes were written, or
  -- a beginning of them where a write failed. Where it was not seen, nothing was written; where all
  -- is to be read, then only since there is no database.
  abbrev pub IsNotedAt : List ℕ → (logs strict : Bool) → (said_old said_new : Option (List ℕ))
      → Type 0
  IsNotedAt path logs strict said_old said_new =
      (((fault : DirectoryFault) × IsUnseenAt path fault × (IsTrue strict → IsNew fault))
      × Keeps said_old said_new)
      ⊎ ((m : NamedManifest) × (beside : Beside) × IsSeenAt path logs m beside
      × (IsTrue strict → IsWhole m beside) × Begins said_old said_new (notes m beside))

  abbrev pub IsNoted : Option (List ℕ × Bool) → (strict : Bool)
      → (said_old said_new : Option (List ℕ)) → Type 0
  IsNoted None strict said_old said_new = Keeps said_old said_new
  IsNoted (Some (path, logs)) strict said_old said_new =
      IsNotedAt path logs strict said_old said_new

  -- All of it is to be read, and the folder was not seen; or it was, and this is not read.
  abbrev pub IsRefusedAt : List ℕ → (logs strict : Bool) → Type 0
  IsRefusedAt path logs strict = IsTrue strict
      × (((fault : DirectoryFault) × IsUnseenAt path fault × (IsNew fault → ⊥))
      ⊎ ((m : NamedManifest) × (beside : Beside) × (fault : DirectoryFault)
      × IsSeenAt path logs m beside × IsFirstLeftOut m beside fault))

  abbrev pub IsRefused : Option (List ℕ × Bool) → (strict : Bool) → Type 0
  IsRefused None strict = ⊥
  IsRefused (Some (path, logs)) strict = IsRefusedAt path logs strict
