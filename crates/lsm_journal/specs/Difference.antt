-- A change of a version, as its edit says it (LevelDB's `db/version_edit.cc`).
use Rattle.std.specs.Prelude.{◌≡◌, ℕ, ◌≤◌, List, Option, IfSome, map}
use Rattle.std.specs.List.{All}
use Rattle.lsm_codec.specs.Lists.{Has}
use Rattle.lsm_table.specs.Registry.{Table}
use Rattle.lsm_manifest.specs.EditFit.{FitsKey, FitsDeleted}
use Rattle.lsm_manifest.specs.EditWriting.{AreInOrder}
use Rattle.lsm_manifest.specs.Replay.{Deletion}
use Rattle.lsm_version.specs.Changes.{changed}
use Rattle.lsm_version.specs.FileNumbers.{AreDistinct}
use Rattle.lsm_version.specs.Versions.{Levels, level_in}
use Rattle.lsm_journal.specs.HeldManifest.{HeldManifest}
use Rattle.lsm_journal.specs.Recorded.{IsRecorded}

pub record Difference : Type 0 where
  -- levels and numbers of the tables that go
  pub deleted : List Deletion
  -- the tables that come, each with its level
  pub added : List (ℕ × Table)
  -- a level with its new pointer, an internal key
  pub pointer : Option (ℕ × List ℕ)
  -- the last sequence afterwards
  pub last : ℕ

abbrev pub deleted_numbers : Difference → List ℕ
deleted_numbers d = map (λ x. x.number) d.deleted

-- the version after the change
abbrev pub changed_by : Difference → Levels → Levels
changed_by d v = changed (deleted_numbers d) d.added d.pointer d.last v

abbrev pub FitsComing : ℕ × Table → Type 0
FitsComing a = (a.0 ≤ 6) × FitsKey a.1.smallest × FitsKey a.1.largest

abbrev pub FitsPlace : ℕ × List ℕ → Type 0
FitsPlace p = (p.0 ≤ 6) × FitsKey p.1

-- Levels are 0 to 6, keys are internal keys whose lengths fit 32 bits, and deletions stand by
-- level, then number.
pub record FitsDifference (d : Difference) : Type 0 where
  pub deleted : All FitsDeleted d.deleted
  pub ordered : AreInOrder d.deleted
  pub added : All FitsComing d.added
  pub pointer : IfSome d.pointer FitsPlace

-- The change is one of this version: what goes is there, at its level; no two tables that come have
-- one number, and none has the number of a table that stays.
pub record Suits (d : Difference) (v : Levels) : Type 0 where
  pub there : (x : Deletion) → Has d.deleted x
      → (t : Table) × Has (level_in v.tables x.level) t × (t.number ≡ x.number)
  pub apart : AreDistinct (map (λ a. a.1.number) d.added)
  pub fresh : (n m : ℕ) (t u : Table) → Has d.added (n, t) → Has (level_in v.tables m) u
      → (Has (deleted_numbers d) u.number → ⊥) → u.number ≡ t.number → ⊥

-- The manifest held records a version that the change turns into this one, under next file numbers
-- up to this one.
pub record LeadsTo (h : HeldManifest) (d : Difference) (w : Levels) (next : ℕ) : Type 0 where
  pub before : Levels
  pub recorded : IsRecorded 0 h before next
  pub suits : Suits d before
  pub is : w ≡ changed_by d before
