-- The logs that may have come into a database before its new manifest has one read them (this
-- project's rule).
use Rattle.std.specs.Prelude.{◌≡◌, ◌↔◌, ◌⊎◌, ℕ, ◌<◌, List, [], true}
use Rattle.std.specs.List.Sorted.{IsStrictlyIncreasing}
use Rattle.lsm_codec.specs.Lists.{Has}
use Rattle.lsm_directory.specs.Logs.{IsLogName, IsReached}
use Rattle.lsm_opening.specs.Names.{Among, IsManifestName}
use Rattle.lsm_repair.specs.declared.old_logs.OldLogs.{OldLogs}

-- the name is of the log of this number, and LevelDB reads it behind these log numbers
abbrev pub IsLogToRead : OldLogs → ℕ → List ℕ → Type 0
IsLogToRead logs n name = IsLogName name n × IsReached logs.log logs.prev_log n

-- the numbers of these logs
abbrev pub AreNumbers : OldLogs → List (List ℕ) → List ℕ → Type 0
AreNumbers logs names numbers = (n : ℕ) → Has numbers n ↔ Among names (IsLogToRead logs n)

-- The second list has, beside the numbers of the first, that of the name, if it is such a log's.
abbrev pub AddsNumber : OldLogs → List ℕ → List ℕ → List ℕ → Type 0
AddsNumber logs name old new = (n : ℕ) → Has new n ↔ (Has old n ⊎ IsLogToRead logs n name)

-- ascending, each once
pub record AreLogs (logs : OldLogs) (names : List (List ℕ)) (numbers : List ℕ) : Type 0 where
  pub ascending : IsStrictlyIncreasing numbers
  pub all : AreNumbers logs names numbers

-- the name is of a manifest of a higher number
abbrev pub IsLater : ℕ → List ℕ → Type 0
IsLater number name = (m : ℕ) × IsManifestName m name × (number < m)

-- The manifest that was read is whole, and none of a higher number is among the names.
pub record IsSure (logs : OldLogs) (names : List (List ℕ)) : Type 0 where
  pub whole : logs.is_whole ≡ true
  pub latest : Among names (IsLater logs.manifest) → ⊥

-- none where such a manifest says which logs are to be read; otherwise each of them
abbrev pub AreUnsure : OldLogs → List (List ℕ) → List ℕ → Type 0
AreUnsure logs names numbers = (IsSure logs names × (numbers ≡ []))
    ⊎ ((IsSure logs names → ⊥) × AreLogs logs names numbers)
