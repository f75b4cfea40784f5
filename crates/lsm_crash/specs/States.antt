-- What the state of a database stands for in its folder: the manifest held, the current version,
-- and the tables of numbers that are spent.
use Rattle.std.specs.Prelude.{◌≡◌, ℕ, ◌^◌, ◌<◌, ◌≤◌, ◌↔◌, List, [], get_or, Some, None}
use Rattle.lsm_codec.specs.Lists.{Has}
use Rattle.lsm_storage.specs.FileNames.{table_name, manifest_name, current_text}
use Rattle.lsm_manifest.specs.FileOrder.{TableFile}
use Rattle.lsm_table.specs.Registry.{Table}
use Rattle.lsm_version.specs.Versions.{Levels, level_in}
use Rattle.lsm_journal.specs.Recorded.{IsFileAt}
use Rattle.lsm_state.specs.Held.{Held}
use Rattle.lsm_crash.specs.Disk.{Disk, Shows}
use Rattle.lsm_crash.specs.Crash.{Found}
use Rattle.lsm_crash.specs.Versions.{ComesTo, Tables, Version}
use Rattle.lsm_crash.specs.Known.{World, current_name}

-- The shape names at each level just the files of the version's tables, with its pointers and its
-- last sequence.
pub record Describes (shape : Version) (v : Levels) : Type 0 where
  pub files : (level : ℕ) (file : TableFile) → level ≤ 6
      → Has (get_or shape.levels level []) file ↔ IsFileAt v level file
  pub pointers : (level : ℕ) → level ≤ 6
      → get_or shape.pointers level None ≡ get_or v.pointers level None
  pub last : shape.last ≡ v.last

-- each table of the version is counted on, with the image for which its record stands
abbrev pub HasTables : Tables → Levels → Type 0
HasTables tables v = (level : ℕ) (t : Table) → Has (level_in v.tables level) t
    → tables t.number ≡ Some t.image

-- What a database counts on in this state: the manifest held, and tables under numbers that are
-- spent, those of the current version among them.
pub record IsWorldOf (h : Held) (w : World) : Type 0 where
  pub manifest : w.manifest ≡ h.journal.number
  pub bytes : w.bytes ≡ h.journal.bytes
  pub tables : HasTables w.tables h.slots.version
  pub below : (number : ℕ) (image : List ℕ) → w.tables number ≡ Some image → number < h.next
  pub own : h.journal.number < h.next
  pub fits : h.next < 2 ^ 64

-- What is found after a crash is this version: `CURRENT` names a manifest that comes to its shape,
-- and each of its tables is there, whole.
pub record Finds (v : Levels) (found : Found) : Type 0 where
  pub manifest : ℕ
  pub bytes : List ℕ
  pub shape : Version
  pub small : manifest < 2 ^ 64
  pub current : found current_name ≡ Some (current_text manifest)
  pub its : found (manifest_name manifest) ≡ Some bytes
  pub comes : ComesTo bytes shape
  pub describes : Describes shape v
  pub tables : (level : ℕ) (t : Table) → Has (level_in v.tables level) t
      → found (table_name t.number) ≡ Some t.image

-- The folder shows this version: that is what an opening reads.
pub record Shown (v : Levels) (d : Disk) : Type 0 where
  pub manifest : ℕ
  pub bytes : List ℕ
  pub shape : Version
  pub small : manifest < 2 ^ 64
  pub current : Shows d current_name (current_text manifest)
  pub its : Shows d (manifest_name manifest) bytes
  pub comes : ComesTo bytes shape
  pub describes : Describes shape v
  pub tables : (level : ℕ) (t : Table) → Has (level_in v.tables level) t
      → Shows d (table_name t.number) t.image
