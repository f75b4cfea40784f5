-- Write-ahead logs beside the tables (LevelDB's `doc/impl.md`, "Log files", and `DBImpl::Recover`
-- of `db/db_impl.cc`).
use Rattle.std.specs.Prelude.{◌≡◌, ◌⊎◌, ℕ, ◌<◌, ◌≤◌, List, [], ◌∷◌, ◌++◌, codes, decimal}
use Rattle.std.specs.Prelude.{string_bytes}
use Rattle.std.specs.List.{flat_map}
use Rattle.lsm_codec.specs.Lists.{Has}
use Rattle.lsm_directory.specs.FileNames.{IsNumberBefore}
use Rattle.lsm_directory.specs.declared.folder.folder_file.FolderFile.{FolderFile}
use Rattle.lsm_directory.specs.declared.folder.wording.Wording.{Wording}
use Rattle.lsm_directory.specs.declared.folder.wording.Wording.TheVariants.{Listed, Noted}

-- the name of the log of this number: decimal digits, and `.log` (LevelDB's `ParseFileName`)
abbrev pub IsLogName : List ℕ → ℕ → Type 0
IsLogName name n = IsNumberBefore (codes ".log") name n

-- LevelDB reads the log of this number when it opens the directory: the number is the manifest's
-- log number or above it, or is the previous log number.
abbrev pub IsReached : ℕ → ℕ → ℕ → Type 0
IsReached log prev n = (log ≤ n) ⊎ (n ≡ prev)

-- a log that is not empty, and that LevelDB reads
abbrev pub IsUnread : ℕ → ℕ → FolderFile → Type 0
IsUnread log prev file = (0 < file.size)
    × ((n : ℕ) × IsLogName (string_bytes file.name) n × IsReached log prev n)

-- the second list has just those of the first of which this holds, in their order
abbrev pub AreThose : {X : Type 0} → (X → Type 0) → List X → List X → Type 0
AreThose {X} P [] ys = ys ≡ []
AreThose {X} P (x ∷ xs) ys = (P x × ((rest : List X) × (ys ≡ x ∷ rest) × AreThose P xs rest))
    ⊎ ((P x → ⊥) × AreThose P xs ys)

-- none of these files is a log that is not read
abbrev pub NoneUnread : (log prev : ℕ) → List FolderFile → Type 0
NoneUnread log prev files = (file : FolderFile) → Has files file → IsUnread log prev file → ⊥

-- the first of these files that is a log which is not read has this number
pub record IsFirstUnread (log prev : ℕ) (files : List FolderFile) (n : ℕ) : Type 0 where
  pub before : List FolderFile
  pub file : FolderFile
  pub after : List FolderFile
  pub parts : files ≡ before ++ file ∷ after
  pub none : NoneUnread log prev before
  pub unread : IsUnread log prev file
  pub named : IsLogName (string_bytes file.name) n

-- `log NAME BYTES`
unfoldable pub log_line : FolderFile → List ℕ
log_line file = codes "log " ++ (string_bytes file.name ++ (32 ∷ (decimal file.size ++ (10 ∷ []))))

-- `note: NAME is not flushed: its BYTES bytes are not read`
unfoldable pub note_line : FolderFile → List ℕ
note_line file = codes "note: "
    ++ (string_bytes file.name ++ (codes " is not flushed: its "
    ++ (decimal file.size ++ codes " bytes are not read\n")))

-- the line of a log in these words
abbrev pub line_in : Wording → FolderFile → List ℕ
line_in Listed = log_line
line_in Noted = note_line

-- a line for each of these files
unfoldable pub log_lines : (FolderFile → List ℕ) → List FolderFile → List ℕ
log_lines line files = flat_map line files

-- To a text such a line was added for each log among these files that is not read.
abbrev pub AppendsLogs : (FolderFile → List ℕ) → (log prev : ℕ) → List FolderFile
    → (old new : List ℕ) → Type 0
AppendsLogs line log prev files old new =
    (logs : List FolderFile) × AreThose (IsUnread log prev) files logs
    × (new ≡ old ++ log_lines line logs)
