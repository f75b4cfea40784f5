-- Which files of a folder are removed before its database is opened to be written, and what the
-- folder is asked for that (which files are obsolete is LevelDB's `DBImpl::RemoveObsoleteFiles`;
-- LevelDB removes them behind an opening).
use Rattle.std.specs.Prelude.{◌≡◌, ◌≢◌, ◌⊎◌, ℕ, ◌-◌, ◌^◌, List, [], ◌∷◌, ◌++◌, Result, Ok, Err}
use Rattle.std.specs.Prelude.{map, reverse}
use Rattle.std.specs.Cmp.Lexicographic.{slice_cmp}
use Rattle.std.specs.List.Sorted.{IsPermutation, IsSorted}
use Rattle.std.specs.Ordering.{nat_cmp}
use Rattle.lsm_codec.specs.Lists.{Has}
use Rattle.lsm_folder.specs.Calls.{Answer, Call, opened, made, wrote, appended, synced}
use Rattle.lsm_folder.specs.Calls.{folder_synced, renamed, removed, measured, read, loaded, listed}
use Rattle.lsm_folder.specs.Calls.{locked}
use Rattle.lsm_folder.specs.declared.folder_fault.FolderFault.{FolderFault}
use Rattle.lsm_folder.specs.declared.lock_kind.LockKind.TheVariants.{Exclusive}
use Rattle.lsm_manifest.specs.Log.{IsLog}
use Rattle.lsm_shelf.specs.declared.shelf_fault.ShelfFault.{ShelfFault}
use Rattle.lsm_storage.specs.FileNames.{current_text, manifest_name}
use Rattle.lsm_storage.specs.Plans.{Refused, current_read, done, durable_plan}
use Rattle.lsm_directory.specs.FileNames.{IsFileName}
use Rattle.lsm_directory.specs.Holding.{IsHeld, IsUnheld}
use Rattle.lsm_directory.specs.Logs.{AreThose}
use Rattle.lsm_directory.specs.Looking.{LooksStopped}
use Rattle.lsm_directory.specs.declared.faults.directory_fault.DirectoryFault.{DirectoryFault}
use Rattle.lsm_directory.specs.declared.faults.directory_fault.DirectoryFault.TheVariants.{Shelf}
use Rattle.lsm_directory.specs.declared.folder.file_kind.FileKind.TheVariants.{Manifest, Temporary}
use Rattle.lsm_opening.specs.Names.{Among, IsManifestName, IsNumbered}

-- ---- what is obsolete

-- The name is of another manifest than that of this number, or of a temporary file.
abbrev pub IsObsolete : ℕ → List ℕ → Type 0
IsObsolete manifest name =
    ((n : ℕ) × IsFileName name (Manifest n) × (n ≢ manifest))
    ⊎ ((n : ℕ) × IsFileName name (Temporary n))

-- The name is of a manifest, and by this text `CURRENT` names that one.
abbrev pub IsNamedBy : List ℕ → List ℕ → Type 0
IsNamedBy text name = (n : ℕ) × IsManifestName n name × (text ≡ current_text n)

-- With this answer `CURRENT` names none of the manifests among these names: it could not be read,
-- or holds another text.
abbrev pub NamesNone : List (List ℕ) → Result (List ℕ) FolderFault → Type 0
NamesNone names (Ok text) = Among names (IsNamedBy text) → ⊥
NamesNone names (Err fault) = Unit {0}

-- The bytes are a record at least, and records to the last byte.
abbrev pub IsWhole : List ℕ → Type 0
IsWhole bytes = (records : List (List ℕ)) × (records ≢ []) × IsLog bytes records 0

-- The manifest was read, and is whole. A manifest without a record names no database: a disk may
-- have lost it, and one before it is needed. What a torn end may have named is in no record. So
-- beside such a manifest nothing is removed.
abbrev pub IsReadWhole : Result (List ℕ) FolderFault → Type 0
IsReadWhole (Ok bytes) = IsWhole bytes
IsReadWhole (Err fault) = ⊥

-- ---- removals

-- a name, and what the folder answered when it was asked to remove the file
pub record Removal : Type 0 where
  pub name : List ℕ
  pub answer : Answer

-- the calls after these removals were asked for, one after another
abbrev pub removals : List Removal → List Call → List Call
removals rs calls = reverse (map (λ r. removed r.name r.answer) rs) ++ calls

-- The file of this name was asked to be removed if it is obsolete beside this manifest, and else
-- nothing was asked for.
abbrev pub AsksIfObsolete : ℕ → List ℕ → List Call → List Call → Type 0
AsksIfObsolete manifest name old new =
    (IsObsolete manifest name × ((answer : Answer) × (new ≡ removed name answer ∷ old)))
    ⊎ ((IsObsolete manifest name → ⊥) × (new ≡ old))

-- Of these files just those that are obsolete beside this manifest were asked to be removed, each
-- once, in the order of their names, whatever the folder answered.
pub record AsksObsolete (manifest : ℕ) (names : List (List ℕ)) (old new : List Call)
    : Type 0 where
  pub asked : List Removal
  pub those : AreThose (IsObsolete manifest) names (map (λ r. r.name) asked)
  pub calls : new ≡ removals asked old

-- ---- what is done before

-- The manifest of this number is made durable, and then the folder's names, before any file is
-- removed; where either is refused, none is.
abbrev pub RemovesDurably : ℕ → List (List ℕ) → List Call → List Call → Type 0
RemovesDurably manifest names old new =
    ((fault : FolderFault) × Refused (durable_plan (manifest_name manifest)) fault old new)
    ⊎ AsksObsolete manifest names (done (durable_plan (manifest_name manifest)) old) new

-- The manifest was read, with this answer: where it is not whole, nothing else was asked for.
abbrev pub RemovesBehind : ℕ → List (List ℕ) → Result (List ℕ) FolderFault → List Call
    → List Call → Type 0
RemovesBehind manifest names answer old new =
    ((IsReadWhole answer → ⊥) × (new ≡ old))
    ⊎ (IsReadWhole answer × RemovesDurably manifest names old new)

-- Where no file is obsolete beside this manifest, nothing was asked for; else it was read.
abbrev pub RemovesBeside : ℕ → List (List ℕ) → List Call → List Call → Type 0
RemovesBeside manifest names old new =
    ((Among names (IsObsolete manifest) → ⊥) × (new ≡ old))
    ⊎ (Among names (IsObsolete manifest) × ((answer : Result (List ℕ) FolderFault)
    × RemovesBehind manifest names answer (loaded (manifest_name manifest) answer ∷ old) new))

-- `CURRENT` was read: it names none of these files, and nothing else was asked for; or it names the
-- manifest of this number.
abbrev pub RemovesAmong : List (List ℕ) → List Call → List Call → Type 0
RemovesAmong names old new =
    ((answer : Result (List ℕ) FolderFault) × NamesNone names answer
    × (new ≡ current_read answer old))
    ⊎ ((manifest : ℕ) × Among names (IsManifestName manifest)
    × RemovesBeside manifest names (current_read (Ok (current_text manifest)) old) new)

-- One of these files has the last number that there is, so no opening can begin a manifest, and
-- nothing was asked for; or none has.
abbrev pub RemovesUnspent : List (List ℕ) → List Call → List Call → Type 0
RemovesUnspent names old new =
    (Among names (IsNumbered (2 ^ 64 - 1)) × (new ≡ old))
    ⊎ ((Among names (IsNumbered (2 ^ 64 - 1)) → ⊥) × RemovesAmong names old new)

-- The folder told its names, and of its files just those were removed that are obsolete.
pub record IsTidied (old new : List Call) : Type 0 where
  pub names : List (List ℕ)
  pub ordered : List (List ℕ)
  pub same : IsPermutation names ordered
  pub ascending : IsSorted (slice_cmp nat_cmp) ordered
  pub removes : RemovesUnspent ordered (listed (Ok names) ∷ old) new

-- ---- calls that change nothing

-- it reads a file whole, or asks for the folder's names, or how many bytes a file has
abbrev pub IsReading : Call → Type 0
IsReading opened = ⊥
IsReading (made name bytes answer) = ⊥
IsReading (wrote name bytes answer) = ⊥
IsReading (appended name bytes answer) = ⊥
IsReading (synced name answer) = ⊥
IsReading (folder_synced answer) = ⊥
IsReading (renamed from to answer) = ⊥
IsReading (removed name answer) = ⊥
IsReading (measured name answer) = Unit {0}
IsReading (read name image offset len answer) = ⊥
IsReading (loaded name answer) = Unit {0}
IsReading (listed answer) = Unit {0}
IsReading (locked name kind answer) = ⊥

-- Between these moments a folder was asked for nothing else. The newest call stands first.
abbrev pub OnlyReads : List Call → List Call → Type 0
OnlyReads old new = (calls : List Call) × (new ≡ calls ++ old)
    × ((call : Call) → Has calls call → IsReading call)

-- ---- under the lock

-- The lock was held, and then the folder was tidied.
abbrev pub IsHeldTidy : List Call → List Call → Type 0
IsHeldTidy old new = (held : List Call) × IsHeld Exclusive old held × IsTidied held new

-- The lock was not held; or it was, and memory was refused or a look, and nothing was removed.
abbrev pub IsUntidy : DirectoryFault → List Call → List Call → Type 0
IsUntidy e old new =
    IsUnheld Exclusive e old new
    ⊎ ((held : List Call) × IsHeld Exclusive old held
    × ((fault : ShelfFault) × (e ≡ Shelf fault) × LooksStopped fault held new
    × OnlyReads held new))
