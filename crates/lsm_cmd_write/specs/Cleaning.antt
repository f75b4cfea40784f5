-- What a `clean` removes, and why it stops (this project's rule; which files are obsolete is
-- LevelDB's `DBImpl::RemoveObsoleteFiles`).
use Rattle.std.specs.Prelude.{◌≡◌, ◌≢◌, ◌<◌, ◌↔◌, ◌⊎◌, ℕ, ◌-◌, ◌^◌, List, [], ◌∷◌, ◌++◌, Ok, Err}
use Rattle.std.specs.Prelude.{Option, IsFalse, IsTrue, map, reverse}
use Rattle.std.specs.Io.KnownBytes.{Appends, Keeps}
use Rattle.std.specs.List.{flat_map}
use Rattle.std.specs.List.Sorted.{IsPermutation, IsSorted}
use Rattle.std.specs.Cmp.Lexicographic.{slice_cmp}
use Rattle.std.specs.Ordering.{nat_cmp}
use Rattle.lsm_codec.specs.Lists.{Has}
use Rattle.lsm_folder.specs.Calls.{AreHonest, Call, folder_synced, listed, removed, synced}
use Rattle.lsm_folder.specs.declared.folder_calls.FolderCalls.{Ghosts}
use Rattle.lsm_folder.specs.declared.folder_fault.FolderFault.{FolderFault}
use Rattle.lsm_folder.specs.declared.lock_kind.LockKind.TheVariants.{Exclusive}
use Rattle.lsm_folder.specs.declared.mark.Mark as mark
use Rattle.lsm_shelf.specs.Asked.{Asked}
use Rattle.lsm_shelf.specs.Refusals.{MayRefuse}
use Rattle.lsm_storage.specs.FileNames.{manifest_name}
use Rattle.lsm_storage.specs.FolderFault.{device_of}
use Rattle.lsm_storage.specs.declared.file.file_shelf.FileShelf.{FileShelf}
use Rattle.lsm_shelf.specs.Told.{Place, Told, fresh}
use Rattle.lsm_shelf.specs.declared.shelf_fault.ShelfFault.{ShelfFault}
use Rattle.lsm_version.specs.Versions.{Levels, numbers_in}
use Rattle.lsm_journal.specs.Finding.{IsFindRefusal, IsFound}
use Rattle.lsm_journal.specs.HeldManifest.{HeldManifest, no_limit}
use Rattle.lsm_journal.specs.declared.open_fault.OpenFault.{OpenFault}
use Rattle.lsm_directory.specs.FileNames.{IsFileName}
use Rattle.lsm_directory.specs.Folders.{stored_at, told_by}
use Rattle.lsm_directory.specs.Holding.{IsHeld, IsUnheld}
use Rattle.lsm_directory.specs.Logs.{AreThose, IsReached}
use Rattle.lsm_directory.specs.Looking.{LooksStopped}
use Rattle.lsm_requests.specs.declared.clean_options.CleanOptions.{CleanOptions}
use Rattle.lsm_directory.specs.declared.faults.directory_fault.DirectoryFault.{DirectoryFault}
use Rattle.lsm_directory.specs.declared.faults.directory_fault.DirectoryFault.TheVariants.{TornManifest}
use Rattle.lsm_directory.specs.declared.folder.file_kind.FileKind.{FileKind}
use Rattle.lsm_directory.specs.declared.folder.file_kind.FileKind.TheVariants.{Table, OldTable}
use Rattle.lsm_directory.specs.declared.folder.file_kind.FileKind.TheVariants.{Manifest, Temporary}
use Rattle.lsm_directory.specs.declared.folder.file_kind.FileKind.TheVariants.{Log, Current, Lock}
use Rattle.lsm_directory.specs.declared.folder.file_kind.FileKind.TheVariants.{Other}
use Rattle.lsm_opening.specs.WriterFault.{of_open, of_shelf}
use Rattle.lsm_opening.specs.declared.faults.writer_fault.WriterFault.{WriterFault}
use Rattle.lsm_opening.specs.declared.faults.writer_fault.WriterFault.TheVariants.{OutOfMemory}
use Rattle.lsm_opening.specs.declared.faults.writer_fault.WriterFault.TheVariants.{Write as WriteFault}
use Rattle.lsm_opening.specs.declared.faults.writer_fault.WriterFault.TheVariants.{Directory}

-- ---- what a database needs

-- A database was found, whose manifest is this one, with its log numbers and so many bytes at its
-- end that hold no whole record, and whose version has just these tables.
pub record IsKept (Honest : Type 0) (manifest : HeldManifest) (rest : ℕ) (tables : List ℕ)
    (was is : Told) : Type 0 where
  pub version : Levels
  pub next : ℕ
  pub found : IsFound Honest no_limit manifest version rest next was is
  pub all : (n : ℕ) → Has tables n ↔ Has (numbers_in version) n

-- memory ran out, or there was none to be found
abbrev pub IsUnkept : (ℕ → List ℕ → Type 0) → (Asked → ShelfFault → Type 0) → Type 0 → WriterFault
    → Told → Told → Type 0
IsUnkept Stored Refused Honest e was is =
    (e ≡ OutOfMemory) ⊎ ((fault : OpenFault) × (e ≡ of_open fault)
    × IsFindRefusal Stored Refused Honest fault was is)

-- The manifest ends with a whole record, or that it does not is accepted: a longer manifest may
-- name tables that this version does not have.
abbrev pub IsAccepted : CleanOptions → ℕ → Type 0
IsAccepted options rest = (rest ≡ 0) ⊎ IsTrue options.accepts_rest

-- So many bytes at its end hold no whole record, and that is not accepted.
abbrev pub IsTorn : CleanOptions → ℕ → WriterFault → Type 0
IsTorn options rest e =
    (0 < rest) × IsFalse options.accepts_rest × (e ≡ Directory (TornManifest rest))

-- A database of this manifest and these tables does not need a file of this kind: it is another
-- manifest, another table, a temporary file, or a log that LevelDB does not read, since its number
-- is below the manifest's log number and is not the previous log's.
abbrev pub IsUnneeded : HeldManifest → List ℕ → FileKind → Type 0
IsUnneeded manifest tables (Manifest n) = n ≢ manifest.number
IsUnneeded manifest tables (Table n) = Has tables n → ⊥
IsUnneeded manifest tables (Temporary n) = Unit {0}
IsUnneeded manifest tables (Log n) = IsReached manifest.log manifest.prev_log n → ⊥
IsUnneeded manifest tables (OldTable n) = ⊥
IsUnneeded manifest tables Current = ⊥
IsUnneeded manifest tables Lock = ⊥
IsUnneeded manifest tables Other = ⊥

-- the name is of a file that it does not need
abbrev pub IsSpare : HeldManifest → List ℕ → List ℕ → Type 0
IsSpare manifest tables name =
    (kind : FileKind) × IsFileName name kind × IsUnneeded manifest tables kind

-- ---- removals

-- the calls after files of these names were removed, one after another
abbrev pub removals : List (List ℕ) → List Call → List Call
removals names calls = reverse (map (λ name. removed name (Ok tt)) names) ++ calls

-- a line for each name
abbrev pub lines : List (List ℕ) → List ℕ
lines names = flat_map (λ name. name ++ 10 ∷ []) names

-- Of these names just the spare ones were removed and printed, in their order.
pub record AreRemoved (manifest : HeldManifest) (tables : List ℕ) (names : List (List ℕ))
    (old new : List Call) (before after : Option (List ℕ)) : Type 0 where
  pub spares : List (List ℕ)
  pub those : AreThose (IsSpare manifest tables) names spares
  pub calls : new ≡ removals spares old
  pub printed : Appends before after (lines spares)

-- The folder refused to remove the file of this name; or it removed it, and its line was not
-- written.
abbrev pub IsUnremoved : List ℕ → WriterFault → List Call → List Call → Option (List ℕ)
    → Option (List ℕ) → Type 0
IsUnremoved name e old new before after =
    ((fault : FolderFault) × (e ≡ of_shelf (device_of fault))
    × (new ≡ removed name (Err fault) ∷ old) × Keeps before after)
    ⊎ ((e ≡ WriteFault) × (new ≡ removed name (Ok tt) ∷ old))

-- The file of this name was removed and printed if it is a spare one, and else nothing was asked
-- for.
abbrev pub Removes : HeldManifest → List ℕ → List ℕ → List Call → List Call → Option (List ℕ)
    → Option (List ℕ) → Type 0
Removes manifest tables name old new before after =
    (IsSpare manifest tables name × (new ≡ removed name (Ok tt) ∷ old)
    × Appends before after (name ++ 10 ∷ []))
    ⊎ ((IsSpare manifest tables name → ⊥) × (new ≡ old) × (after ≡ before))

-- Just the spare ones before this one were removed and printed.
pub record StopsRemoving (manifest : HeldManifest) (tables : List ℕ) (names : List (List ℕ))
    (e : WriterFault) (old new : List Call) (before after : Option (List ℕ)) : Type 0 where
  pub front : List (List ℕ)
  pub name : List ℕ
  pub back : List (List ℕ)
  pub parts : names ≡ front ++ name ∷ back
  pub spare : IsSpare manifest tables name
  pub calls : List Call
  pub mid : Option (List ℕ)
  pub removed : AreRemoved manifest tables front old calls before mid
  pub stops : IsUnremoved name e calls new mid after

-- The folder told its names, and just the spare ones were removed and printed, in the order of
-- names.
pub record IsTidied (manifest : HeldManifest) (tables : List ℕ) (old new : List Call)
    (before after : Option (List ℕ)) : Type 0 where
  pub names : List (List ℕ)
  pub ordered : List (List ℕ)
  pub same : IsPermutation names ordered
  pub ascending : IsSorted (slice_cmp nat_cmp) ordered
  pub removed : AreRemoved manifest tables ordered (listed (Ok names) ∷ old) new before after

-- The folder told its names, and a removal or a line of one stopped it.
pub record IsHalfTidied (manifest : HeldManifest) (tables : List ℕ) (e : WriterFault)
    (old new : List Call) (before after : Option (List ℕ)) : Type 0 where
  pub names : List (List ℕ)
  pub ordered : List (List ℕ)
  pub same : IsPermutation names ordered
  pub ascending : IsSorted (slice_cmp nat_cmp) ordered
  pub stops : StopsRemoving manifest tables ordered e (listed (Ok names) ∷ old) new before after

-- Why it is not tidied: a look was refused; a removal or a line; or all was done, and the lines
-- were not written out.
abbrev pub IsUntidied : HeldManifest → List ℕ → WriterFault → List Call → List Call
    → Option (List ℕ) → Option (List ℕ) → Type 0
IsUntidied manifest tables e old new before after =
    ((fault : ShelfFault) × (e ≡ of_shelf fault) × LooksStopped fault old new × Keeps before after)
    ⊎ (IsHalfTidied manifest tables e old new before after
    ⊎ ((e ≡ WriteFault) × ((mid : Option (List ℕ)) × IsTidied manifest tables old new before mid)))

-- ---- what is needed is made durable first

-- The manifest of this number was synced, and then the folder's names.
abbrev pub IsDurable : ℕ → List Call → List Call → Type 0
IsDurable number old new = new
    ≡ folder_synced (Ok tt) ∷ synced (manifest_name number) (Ok tt) ∷ old

-- Memory ran out before either was asked for; or the folder refused the one or the other.
abbrev pub IsUndurable : ℕ → WriterFault → List Call → List Call → Type 0
IsUndurable number e old new =
    ((e ≡ OutOfMemory) × (new ≡ old))
    ⊎ ((fault : FolderFault)
    × (e ≡ of_shelf (device_of fault))
    × ((new ≡ synced (manifest_name number) (Err fault) ∷ old)
    ⊎ (new ≡ folder_synced (Err fault) ∷ synced (manifest_name number) (Ok tt) ∷ old)))

-- The manifest and the folder's names were made durable, and then just the spare files were
-- removed.
abbrev pub IsCleared : HeldManifest → List ℕ → List Call → List Call → Option (List ℕ)
    → Option (List ℕ) → Type 0
IsCleared manifest tables old new before after =
    (durable : List Call) × IsDurable manifest.number old durable
    × IsTidied manifest tables durable new before after

-- They were not made durable, and no file was removed; or it was not tidied behind that.
abbrev pub IsUncleared : HeldManifest → List ℕ → WriterFault → List Call → List Call
    → Option (List ℕ) → Option (List ℕ) → Type 0
IsUncleared manifest tables e old new before after =
    (IsUndurable manifest.number e old new × Keeps before after)
    ⊎ ((durable : List Call) × IsDurable manifest.number old durable
    × IsUntidied manifest tables e durable new before after)

-- ---- a clean

module _ {C M : Type 0} (folders : Ghosts C M) where
  -- On a shelf of the folder of this place a database was found, which needs this manifest and
  -- these tables; so many bytes at the manifest's end hold no whole record.
  abbrev pub Needs : Place → (manifest : HeldManifest) → (rest : ℕ) → (tables : List ℕ) → Type 0
  Needs place manifest rest tables = (shelf : FileShelf C M)
      × IsKept (AreHonest folders.calls) manifest rest tables (fresh place) (told_by folders shelf)

  -- The manifest's end is accepted; what the database in the folder needs was made durable, and
  -- what it does not need was removed.
  abbrev pub AreSparesGone : CleanOptions → Place → List Call → List Call → Option (List ℕ)
      → Option (List ℕ) → Type 0
  AreSparesGone options place old new before after =
      (manifest : HeldManifest) × (rest : ℕ) × (tables : List ℕ) × Needs place manifest rest tables
      × IsAccepted options rest × IsCleared manifest tables old new before after

  -- The lock was held, and then this was done.
  abbrev pub IsCleaned : CleanOptions → Place → List Call → List Call → Option (List ℕ)
      → Option (List ℕ) → Type 0
  IsCleaned options place old new before after = (held : List Call) × IsHeld Exclusive old held
      × AreSparesGone options place held new before after

module _ {C M : Type 0} (folders : Ghosts C M) (marks : mark.Ghosts M) where
  -- Memory ran out; or on a shelf of the folder of this place there was no database to be found.
  abbrev pub HasNone : Place → WriterFault → Type 0
  HasNone place e =
      (e ≡ OutOfMemory)
      ⊎ ((shelf : FileShelf C M) × IsUnkept (stored_at folders marks place) MayRefuse
      (AreHonest folders.calls) e (fresh place) (told_by folders shelf))

  -- What a database was found for that needs these: its manifest's end is not accepted, and nothing
  -- was asked for; or it is, and what the database does not need was not removed.
  abbrev pub StopsClearing : CleanOptions → (manifest : HeldManifest) → (rest : ℕ)
      → (tables : List ℕ) → WriterFault → List Call → List Call → Option (List ℕ)
      → Option (List ℕ) → Type 0
  StopsClearing options manifest rest tables e old new before after =
      (IsTorn options rest e × (new ≡ old) × Keeps before after)
      ⊎ (IsAccepted options rest × IsUncleared manifest tables e old new before after)

  -- Behind the lock: no database was found, and nothing was asked for; or one was, and this stopped
  -- its clearing.
  abbrev pub StopsCleaning : CleanOptions → Place → WriterFault → List Call → List Call
      → Option (List ℕ) → Option (List ℕ) → Type 0
  StopsCleaning options place e old new before after =
      (HasNone place e × (new ≡ old) × Keeps before after)
      ⊎ ((manifest : HeldManifest) × (rest : ℕ) × (tables : List ℕ)
      × Needs folders place manifest rest tables
      × StopsClearing options manifest rest tables e old new before after)

  -- Why a folder is not cleaned: its lock was not held; or what follows.
  abbrev pub IsUncleaned : CleanOptions → Place → WriterFault → List Call → List Call
      → Option (List ℕ) → Option (List ℕ) → Type 0
  IsUncleaned options place e old new before after =
      ((fault : DirectoryFault) × (e ≡ Directory fault) × IsUnheld Exclusive fault old new
      × Keeps before after)
      ⊎ ((held : List Call) × IsHeld Exclusive old held
      × StopsCleaning options place e held new before after)
