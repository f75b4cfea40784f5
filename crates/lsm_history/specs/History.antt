-- Histories: all that ever came in, the latest batch first, and within a batch in its own order;
-- and which version has had which id (this project's rule).
use Rattle.std.specs.Prelude.{◌≡◌, ℕ, List, ◌++◌}
use Rattle.lsm_codec.specs.Entries.{Entry}

-- a version had this id, and tables of these numbers
pub record Edition : Type 0 where
  pub id : ℕ
  pub tables : List ℕ

-- all that came in, and all editions, the latest of each first
pub record Chronicle : Type 0 where
  pub entries : List Entry
  pub editions : List Edition

-- some came in front of the old ones, or none did
abbrev pub IsLater : {X : Type 0} → List X → List X → Type 0
IsLater {X} now old = (new : List X) × (now ≡ new ++ old)
