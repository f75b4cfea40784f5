-- What lies beside the tables of a folder, and a command that reads does not read: logs, a manifest
-- that is later than the one that `CURRENT` names, and files of RocksDB (LevelDB's `ParseFileName`
-- in `db/filename.cc`, RocksDB's in its `file/filename.cc`); and what is told of it (this project's
-- rule).
use Rattle.std.specs.Prelude.{◌≡◌, ◌⊎◌, ℕ, ◌≤◌, Bool, true, false, cond, nat_lt, List, [], ◌∷◌}
use Rattle.std.specs.Prelude.{◌++◌, codes, Option, Some, None, Ok, IsFalse, IsTrue, MatchBool}
use Rattle.std.specs.List.Sorted.{IsPermutation, IsSorted}
use Rattle.std.specs.Cmp.Lexicographic.{slice_cmp}
use Rattle.std.specs.Ordering.{nat_cmp}
use Rattle.lsm_codec.specs.Lists.{Has}
use Rattle.lsm_folder.specs.Calls.{Call, listed}
use Rattle.lsm_folder.specs.declared.lock_kind.LockKind.TheVariants.{Shared}
use Rattle.lsm_storage.specs.FileNames.{manifest_name}
use Rattle.lsm_directory.specs.FileNames.{IsFileName, IsNumberBehind}
use Rattle.lsm_directory.specs.Holding.{IsHeld}
use Rattle.lsm_directory.specs.Looking.{AsksSizes}
use Rattle.lsm_directory.specs.Rest.{IsLeftOut, LeavesNothingOut}
use Rattle.lsm_directory.specs.declared.faults.directory_fault.DirectoryFault.{DirectoryFault}
use Rattle.lsm_directory.specs.declared.faults.directory_fault.DirectoryFault.TheVariants.{
  OutOfMemory,
  Write,
  Shelf,
  Manifest as ManifestFault,
  Tables,
  Read,
  NumbersSpent,
  Locked,
  UnflushedLog,
  TornManifest,
  LaterManifest,
  RocksDbFiles,
  Absent,
}
use Rattle.lsm_directory.specs.declared.folder.beside.Beside.{Beside}
use Rattle.lsm_directory.specs.declared.folder.file_kind.FileKind.TheVariants.{Manifest}
use Rattle.lsm_directory.specs.declared.folder.named_manifest.NamedManifest.{NamedManifest}

-- ---- names

-- one of these names is such a one
abbrev pub Among : List (List ℕ) → (List ℕ → Type 0) → Type 0
Among names P = (name : List ℕ) × Has names name × P name

-- the name of the manifest of this number
abbrev pub IsManifestName : ℕ → List ℕ → Type 0
IsManifestName n name = IsFileName name (Manifest n)

-- the highest number of a manifest among these names; none where there is no manifest
abbrev pub IsHighestManifest : List (List ℕ) → Option ℕ → Type 0
IsHighestManifest names None = (m : ℕ) → Among names (IsManifestName m) → ⊥
IsHighestManifest names (Some n) =
    Among names (IsManifestName n) × ((m : ℕ) → Among names (IsManifestName m) → m ≤ n)

-- the name of a file that RocksDB writes, and LevelDB does not: `IDENTITY`, or `OPTIONS-N`
abbrev pub IsOfRocksDb : List ℕ → Type 0
IsOfRocksDb name = (name ≡ codes "IDENTITY")
    ⊎ ((n : ℕ) × IsNumberBehind (codes "OPTIONS-") name n)

-- ---- what is asked of the folder

-- The folder was asked for its names, and then for the sizes of logs, in the order of names. By
-- what it told this lies beside the tables.
pub record FindsBeside (beside : Beside) (old new : List Call) : Type 0 where
  pub names : List (List ℕ)
  pub ordered : List (List ℕ)
  pub same : IsPermutation names ordered
  pub ascending : IsSorted (slice_cmp nat_cmp) ordered
  pub sizes : AsksSizes ordered beside.logs.items (listed (Ok names) ∷ old) new
  pub manifest : IsHighestManifest ordered beside.manifest
  pub rocksdb : MatchBool beside.rocksdb (Among ordered IsOfRocksDb)
      (Among ordered IsOfRocksDb → ⊥)

-- What a command that only reads asks of a folder before its tables: it holds the lock, and then
-- looks at what lies beside them.
abbrev pub LooksBeside : Beside → List Call → List Call → Type 0
LooksBeside beside old new = (mid : List Call) × IsHeld Shared old mid × FindsBeside beside mid new

-- ---- what is told of it

-- the highest manifest, if it is later than the one of this number, which `CURRENT` names
abbrev pub later_than : ℕ → Option ℕ → Option ℕ
later_than number None = None
later_than number (Some highest) = cond (nat_lt number highest) (Some highest) None

-- `note: CURRENT names MANIFEST-000001, and MANIFEST-000099 is there`
unfoldable pub later_note : (number later : ℕ) → List ℕ
later_note number later = codes "note: CURRENT names "
    ++ (manifest_name number ++ (codes ", and " ++ (manifest_name later ++ codes " is there\n")))

abbrev pub later_text : ℕ → Option ℕ → List ℕ
later_text number None = []
later_text number (Some later) = later_note number later

abbrev pub rocksdb_text : Bool → List ℕ
rocksdb_text true = codes "note: the folder has files of RocksDB\n"
rocksdb_text false = []

-- a note of a later manifest, and one of files of RocksDB, where there are any
unfoldable pub beside_text : ℕ → Beside → List ℕ
beside_text number beside =
    later_text number (later_than number beside.manifest) ++ rocksdb_text beside.rocksdb

-- There is none of both.
abbrev pub IsPlain : ℕ → Beside → Type 0
IsPlain number beside = (later_than number beside.manifest ≡ None) × IsFalse beside.rocksdb

-- ---- what is left out

-- Nothing is: there is none of both, the manifest ends with a whole record, and each log is read.
abbrev pub IsWhole : NamedManifest → Beside → Type 0
IsWhole m beside =
    IsPlain m.number beside × LeavesNothingOut m.rest m.log m.prev_log beside.logs.items

-- This says what is left out first: a later manifest; what RocksDB has; bytes at the manifest's
-- end; or a log.
abbrev pub IsFirstLeftOut : NamedManifest → Beside → DirectoryFault → Type 0
IsFirstLeftOut m beside (LaterManifest later) = later_than m.number beside.manifest ≡ Some later
IsFirstLeftOut m beside RocksDbFiles =
    (later_than m.number beside.manifest ≡ None) × IsTrue beside.rocksdb
IsFirstLeftOut m beside (TornManifest torn) = IsPlain m.number beside
    × IsLeftOut m.rest m.log m.prev_log beside.logs.items (TornManifest torn)
IsFirstLeftOut m beside (UnflushedLog number) = IsPlain m.number beside
    × IsLeftOut m.rest m.log m.prev_log beside.logs.items (UnflushedLog number)
IsFirstLeftOut m beside OutOfMemory = ⊥
IsFirstLeftOut m beside Write = ⊥
IsFirstLeftOut m beside (Shelf fault) = ⊥
IsFirstLeftOut m beside (ManifestFault fault) = ⊥
IsFirstLeftOut m beside (Tables fault) = ⊥
IsFirstLeftOut m beside (Read fault) = ⊥
IsFirstLeftOut m beside NumbersSpent = ⊥
IsFirstLeftOut m beside Locked = ⊥
IsFirstLeftOut m beside Absent = ⊥
