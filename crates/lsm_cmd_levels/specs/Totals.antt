-- What is summed up of the tables that a manifest names, and of a folder's files: this project's
-- rule.
use Rattle.std.specs.Prelude.{◌≡◌, ◌≢◌, ℕ, ◌≤◌, ◌/◌, max, min, Bool, true, false, not, List, []}
use Rattle.std.specs.Prelude.{◌∷◌, length, Option, Some, None, string_bytes}
use Rattle.std.specs.List.{count_by, sum_by}
use Rattle.lsm_codec.specs.Lists.{Has}
use Rattle.lsm_manifest.specs.declared.file_meta.FileMeta.{FileMeta}
use Rattle.lsm_manifest.specs.declared.shape.Shape.{Shape}
use Rattle.lsm_directory.specs.FileNames.{IsFileName, is_of_database}
use Rattle.lsm_directory.specs.declared.folder.file_kind.FileKind.{FileKind}
use Rattle.lsm_directory.specs.declared.folder.file_kind.FileKind.TheVariants.{Table, OldTable}
use Rattle.lsm_directory.specs.declared.folder.file_kind.FileKind.TheVariants.{Manifest, Temporary}
use Rattle.lsm_directory.specs.declared.folder.file_kind.FileKind.TheVariants.{Log, Current, Lock}
use Rattle.lsm_directory.specs.declared.folder.file_kind.FileKind.TheVariants.{Other}
use Rattle.lsm_directory.specs.declared.folder.folder_file.FolderFile.{FolderFile}
use Rattle.lsm_cmd_levels.specs.Sums.{bytes_of}
use Rattle.lsm_cmd_levels.specs.declared.folder_sums.FolderSums.{FolderSums}
use Rattle.lsm_cmd_levels.specs.declared.totals.Totals.{Totals}

-- ---- tables, by the manifest

-- how many there are, and how many bytes they have
abbrev pub table_count : Shape → ℕ
table_count s = sum_by length s.levels

abbrev pub table_bytes : Shape → ℕ
table_bytes s = sum_by bytes_of s.levels

-- their mean size, rounded down; where there is none, 0
abbrev pub mean : Shape → ℕ
mean s = table_bytes s / max 1 (table_count s)

-- the file is in one of these levels
abbrev pub IsIn : List (List FileMeta) → FileMeta → Type 0
IsIn levels f = (fs : List FileMeta) × Has levels fs × Has fs f

-- the least size of those files of which this holds; there is none
abbrev pub IsLeast : (FileMeta → Type 0) → Option ℕ → Type 0
IsLeast P None = (f : FileMeta) → P f → ⊥
IsLeast P (Some n) = ((f : FileMeta) × P f × (f.size ≡ n)) × ((f : FileMeta) → P f → n ≤ f.size)

-- ---- a folder's files

-- This is the kind of the name. Where it is `Other`, no file of a database has the name.
pub record IsKind (name : List ℕ) (kind : FileKind) : Type 0 where
  pub known : kind ≢ Other → IsFileName name kind
  pub other : kind ≡ Other → (k : FileKind) → IsFileName name k → ⊥

-- these are the kinds of the files, one after another
abbrev pub AreKinds : List FolderFile → List FileKind → Type 0
AreKinds [] kinds = kinds ≡ []
AreKinds (file ∷ files) kinds =
    (kind : FileKind) × (rest : List FileKind) × (kinds ≡ kind ∷ rest)
    × IsKind (string_bytes file.name) kind × AreKinds files rest

abbrev pub is_table : FileKind → Bool
is_table (Table n) = true
is_table (OldTable n) = true
is_table (Manifest n) = false
is_table (Temporary n) = false
is_table (Log n) = false
is_table Current = false
is_table Lock = false
is_table Other = false

abbrev pub is_manifest : FileKind → Bool
is_manifest (Table n) = false
is_manifest (OldTable n) = false
is_manifest (Manifest n) = true
is_manifest (Temporary n) = false
is_manifest (Log n) = false
is_manifest Current = false
is_manifest Lock = false
is_manifest Other = false

-- neither a table nor a manifest
abbrev pub is_beside : FileKind → Bool
is_beside kind = not (is_of_database kind)

-- So many of the files are tables, manifests and others, and all have so many bytes.
pub record AreSums (files : List FolderFile) (sums : FolderSums) : Type 0 where
  pub kinds : List FileKind
  pub each : AreKinds files kinds
  pub tables : sums.tables ≡ count_by is_table kinds
  pub manifests : sums.manifests ≡ count_by is_manifest kinds
  pub others : sums.others ≡ count_by is_beside kinds
  pub bytes : sums.bytes ≡ sum_by (λ (f : FolderFile). f.size) files

-- the least size of a table, and what the folder has
pub record AreTotals (s : Shape) (files : List FolderFile) (totals : Totals) : Type 0 where
  pub least : IsLeast (IsIn s.levels) totals.least
  pub folder : AreSums files totals.folder

-- ---- how the code finds the least

-- the lesser of two sizes, of which there may be none
abbrev pub lesser : Option ℕ → Option ℕ → Option ℕ
lesser None b = b
lesser (Some n) None = Some n
lesser (Some n) (Some m) = Some (min n m)
