-- Which file of a database has a name (LevelDB's `ParseFileName` in `db/filename.cc`: zeros in
-- front of a number are no matter).
use Rattle.std.specs.Prelude.{◌≡◌, ℕ, ◌<◌, ◌^◌, Bool, true, false, List, ◌++◌, codes, Option, Some}
use Rattle.std.specs.Prelude.{None}
use Rattle.std.specs.Str.Parse.{IsNumeral, digits_value}
use Rattle.lsm_directory.specs.declared.folder.file_kind.FileKind.{FileKind}
use Rattle.lsm_directory.specs.declared.folder.file_kind.FileKind.TheVariants.{Table, OldTable}
use Rattle.lsm_directory.specs.declared.folder.file_kind.FileKind.TheVariants.{Manifest, Temporary}
use Rattle.lsm_directory.specs.declared.folder.file_kind.FileKind.TheVariants.{Log, Current, Lock}
use Rattle.lsm_directory.specs.declared.folder.file_kind.FileKind.TheVariants.{Other}

-- the digits spell this number in decimal, which fits 64 bits
abbrev pub IsDecimal : List ℕ → ℕ → Type 0
IsDecimal digits n = IsNumeral 10 digits × (digits_value 10 digits ≡ n) × (n < 2 ^ 64)

-- the name is this number and then this ending
abbrev pub IsNumberBefore : (ending name : List ℕ) → ℕ → Type 0
IsNumberBefore ending name n = (digits : List ℕ) × (name ≡ digits ++ ending) × IsDecimal digits n

-- the name is this beginning and then this number
abbrev pub IsNumberBehind : (beginning name : List ℕ) → ℕ → Type 0
IsNumberBehind beginning name n =
    (digits : List ℕ) × (name ≡ beginning ++ digits) × IsDecimal digits n

-- the name is no number before one of the endings that a database's files have
pub record HasNoEnding (name : List ℕ) : Type 0 where
  pub table : (n : ℕ) → IsNumberBefore (codes ".ldb") name n → ⊥
  pub old_table : (n : ℕ) → IsNumberBefore (codes ".sst") name n → ⊥
  pub temporary : (n : ℕ) → IsNumberBefore (codes ".dbtmp") name n → ⊥
  pub log : (n : ℕ) → IsNumberBefore (codes ".log") name n → ⊥

-- A database has a file of this kind by this name.
abbrev pub IsFileName : List ℕ → FileKind → Type 0
IsFileName name (Table n) = IsNumberBefore (codes ".ldb") name n
IsFileName name (OldTable n) = IsNumberBefore (codes ".sst") name n
IsFileName name (Manifest n) = IsNumberBehind (codes "MANIFEST-") name n
IsFileName name (Temporary n) = IsNumberBefore (codes ".dbtmp") name n
IsFileName name (Log n) = IsNumberBefore (codes ".log") name n
IsFileName name Current = name ≡ codes "CURRENT"
IsFileName name Lock = name ≡ codes "LOCK"
IsFileName name Other = ⊥

-- the number in a name of this kind
abbrev pub number_of : FileKind → Option ℕ
number_of (Table n) = Some n
number_of (OldTable n) = Some n
number_of (Manifest n) = Some n
number_of (Temporary n) = Some n
number_of (Log n) = Some n
number_of Current = None
number_of Lock = None
number_of Other = None

-- A file of this kind shows that a database was begun in its folder.
abbrev pub is_of_database : FileKind → Bool
is_of_database (Table n) = true
is_of_database (OldTable n) = true
is_of_database (Manifest n) = true
is_of_database (Temporary n) = false
is_of_database (Log n) = false
is_of_database Current = false
is_of_database Lock = false
is_of_database Other = false
