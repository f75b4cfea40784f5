-- What the names in a folder say of the database there (LevelDB's `doc/impl.md`, "Recovery"; where
-- one is begun is this project's rule).
use Rattle.std.specs.Prelude.{◌≡◌, ◌⊎◌, ℕ, ◌<◌, ◌≤◌, ◌-◌, ◌^◌, Bool, true, false, List, codes}
use Rattle.std.specs.Prelude.{Option, Some, None}
use Rattle.lsm_codec.specs.Lists.{Has}
use Rattle.lsm_directory.specs.FileNames.{IsFileName, is_of_database, number_of}
use Rattle.lsm_directory.specs.declared.faults.directory_fault.DirectoryFault.TheVariants.{NumbersSpent}
use Rattle.lsm_directory.specs.declared.folder.file_kind.FileKind.{FileKind}
use Rattle.lsm_directory.specs.declared.folder.file_kind.FileKind.TheVariants.{Manifest}
use Rattle.lsm_opening.specs.declared.prepared.Start.{Start}
use Rattle.lsm_opening.specs.declared.prepared.Start.TheVariants.{Open, Begin}
use Rattle.lsm_opening.specs.declared.faults.writer_fault.WriterFault.{WriterFault}
use Rattle.lsm_opening.specs.declared.faults.writer_fault.WriterFault.TheVariants.{Directory}
use Rattle.lsm_opening.specs.declared.faults.writer_fault.WriterFault.TheVariants.{LostCurrent}

-- one of these names is such a one
abbrev pub Among : List (List ℕ) → (List ℕ → Type 0) → Type 0
Among names P = (name : List ℕ) × Has names name × P name

-- the name of a manifest or of a table
abbrev pub IsOfDatabase : List ℕ → Type 0
IsOfDatabase name = (kind : FileKind) × IsFileName name kind × (is_of_database kind ≡ true)

-- the name of a manifest, a table, a log or a temporary file of this number
abbrev pub IsNumbered : ℕ → List ℕ → Type 0
IsNumbered n name = (kind : FileKind) × IsFileName name kind × (number_of kind ≡ Some n)

-- the name of the manifest of this number
abbrev pub IsManifestName : ℕ → List ℕ → Type 0
IsManifestName n name = IsFileName name (Manifest n)

-- `CURRENT` is among the names
abbrev pub HasCurrent : List (List ℕ) → Type 0
HasCurrent names = Among names (λ name. name ≡ codes "CURRENT")

-- the number is at least 1, and above each that one of these names has
pub record IsUnused (names : List (List ℕ)) (n : ℕ) : Type 0 where
  pub from_one : 1 ≤ n
  pub above : (m : ℕ) → Among names (IsNumbered m) → m < n

-- the least such number
abbrev pub IsLeastUnused : List (List ℕ) → ℕ → Type 0
IsLeastUnused names n = IsUnused names n × ((m : ℕ) → IsUnused names m → n ≤ m)

-- the highest number of a manifest among these names; none where there is no manifest
abbrev pub IsHighestManifest : List (List ℕ) → Option ℕ → Type 0
IsHighestManifest names None = (m : ℕ) → Among names (IsManifestName m) → ⊥
IsHighestManifest names (Some n) =
    Among names (IsManifestName n) × ((m : ℕ) → Among names (IsManifestName m) → m ≤ n)

-- Under which number a database is begun: where it is to be begun in any case, above all that are
-- there; and else under 1, where no file of a database is there.
abbrev pub IsBegunUnder : Bool → List (List ℕ) → ℕ → Type 0
IsBegunUnder true names n = IsLeastUnused names n
IsBegunUnder false names n = (Among names IsOfDatabase → ⊥) × (n ≡ 1)

-- What these names lead to. `begins` says that a database is to be begun in any case where
-- `CURRENT` is not there.
abbrev pub Leads : Bool → List (List ℕ) → Start → Type 0
Leads begins names Open = HasCurrent names
Leads begins names (Begin n) = (HasCurrent names → ⊥) × IsBegunUnder begins names n

-- Why they lead to none: `CURRENT` is lost; or a database is to be begun in any case, and no number
-- is left for it.
abbrev pub LeadsNowhere : Bool → List (List ℕ) → WriterFault → Type 0
LeadsNowhere begins names e =
    ((highest : Option ℕ) × (e ≡ LostCurrent highest) × (begins ≡ false) × (HasCurrent names → ⊥)
    × Among names IsOfDatabase × IsHighestManifest names highest)
    ⊎ ((e ≡ Directory NumbersSpent) × (begins ≡ true) × (HasCurrent names → ⊥)
    × Among names (IsNumbered (2 ^ 64 - 1)))
