-- The ranges of user keys that a compaction has to keep deletions for (LevelDB's `doc/impl.md`,
-- "Compactions": a deletion marker is dropped where no higher numbered level has a file whose range
-- overlaps the key).
use Rattle.std.specs.Prelude.{◌≡◌, ℕ, suc, ◌≤◌, List, map}
use Rattle.lsm_table.specs.Registry.{Table}
use Rattle.lsm_codec.specs.Keys.{UserKey}
use Rattle.lsm_codec.specs.Lists.{Has}
use Rattle.lsm_model.specs.Files.{File}
use Rattle.lsm_version.specs.Versions.{Levels, files, user_of}

-- just the ranges of the files two or more levels below
pub record AreRangesBelow (v : Levels) (level : ℕ) (ranges : List (UserKey × UserKey))
    : Type 0 where
  pub all : (F : File) → Has (files v) F → suc (suc level) ≤ F.level → Has ranges (F.low, F.high)
  pub only : (r : UserKey × UserKey) → Has ranges r
      → (F : File) × Has (files v) F × (suc (suc level) ≤ F.level) × ((F.low, F.high) ≡ r)

-- the ranges of tables, in their order
abbrev pub ranges_of : List Table → List (UserKey × UserKey)
ranges_of ts = map (λ t. (user_of t.smallest, user_of t.largest)) ts
