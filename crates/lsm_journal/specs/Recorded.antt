-- When a manifest records a version (LevelDB's `db/version_set.cc`: a database is opened by
-- applying the edits of its manifest).
use Rattle.std.specs.Prelude.{◌≡◌, ℕ, ◌≤◌, ◌↔◌, List, length, Some, None, IfSome, get_or, unwrap_or}
use Rattle.lsm_codec.specs.Lists.{Has}
use Rattle.lsm_table.specs.Registry.{Table, size_of}
use Rattle.lsm_manifest.specs.EditFit.{Change, FitsKey}
use Rattle.lsm_manifest.specs.FileOrder.{TableFile}
use Rattle.lsm_manifest.specs.Manifest.{IsManifest}
use Rattle.lsm_manifest.specs.Replay.{AreInnocent, Stands, last_log, last_next, last_pointer}
use Rattle.lsm_manifest.specs.Replay.{last_prev_log, last_sequence}
use Rattle.lsm_manifest.specs.WholeEdit.{placed_at}
use Rattle.lsm_version.specs.FileNumbers.{AreDistinct}
use Rattle.lsm_version.specs.Versions.{Levels, level_in, numbers_in}
use Rattle.lsm_journal.specs.HeldManifest.{HeldManifest}

-- a table as the manifest names it
abbrev pub meta_of : Table → TableFile
meta_of t = record {
  number = t.number;
  size = size_of t;
  smallest = t.smallest;
  largest = t.largest;
}

-- the version has the file at this level
abbrev pub IsFileAt : Levels → ℕ → TableFile → Type 0
IsFileAt v level file = (t : Table) × Has (level_in v.tables level) t × (meta_of t ≡ file)

-- No edit is at fault, and the version has just the files that some edit adds and no later one
-- deletes, and the last pointer of each level.
pub record IsStanding (edits : List Change) (v : Levels) : Type 0 where
  pub innocent : AreInnocent edits
  pub files : (level : ℕ) (file : TableFile)
      → IsFileAt v level file ↔ Stands edits (placed_at level file)
  pub pointers : (level : ℕ) → level ≤ 6 → get_or v.pointers level None ≡ last_pointer level edits

-- The edits come to the version, and to these numbers of logs and of the next file.
pub record ComesTo (edits : List Change) (v : Levels) (log prev_log next : ℕ) : Type 0 where
  pub standing : IsStanding edits v
  pub log_is : last_log edits ≡ Some log
  pub prev_log_is : unwrap_or (last_prev_log edits) 0 ≡ prev_log
  pub next_is : last_next edits ≡ Some next
  pub last_is : last_sequence edits ≡ Some v.last

-- The version has seven levels and as many pointers, and no number stands twice in its levels.
pub record HasOwnNumbers (v : Levels) : Type 0 where
  pub seven : length v.tables ≡ 7
  pub seven_pointers : length v.pointers ≡ 7
  pub numbers : AreDistinct (numbers_in v)

-- The manifest held is edits that come to the version, with the journal's log numbers and a next
-- file number up to this one; so many bytes at its end hold no whole record.
pub record IsRecorded (rest : ℕ) (h : HeldManifest) (v : Levels) (next : ℕ) : Type 0 where
  pub edits : List Change
  pub manifest : IsManifest h.bytes edits rest
  pub written : ℕ
  pub upto : written ≤ next
  pub comes : ComesTo edits v h.log h.prev_log written
  pub own : HasOwnNumbers v

-- Each key of a table or of a pointer is an internal key whose length fits 32 bits.
pub record FitsLevels (v : Levels) : Type 0 where
  pub tables : (n : ℕ) (t : Table) → Has (level_in v.tables n) t
      → FitsKey t.smallest × FitsKey t.largest
  pub pointers : (level : ℕ) → level ≤ 6 → IfSome (get_or v.pointers level None) FitsKey
