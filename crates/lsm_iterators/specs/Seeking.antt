-- Entries from a user key on (LevelDB's `include/leveldb/iterator.h`, `Seek`: the first key in the
-- source that is at or past the target).
use Rattle.std.specs.Prelude.{◌≢◌, ℕ, List, [], ◌∷◌}
use Rattle.std.specs.List.{filter}
use Rattle.lsm_codec.specs.Keys.{UserKey, user_le}
use Rattle.lsm_codec.specs.Entries.{Entry}
use Rattle.lsm_table.specs.HeldTable.{entries_in}
use Rattle.lsm_model.specs.Merging.{Placed}

-- those whose user key is at or past this one
abbrev pub at_or_past : UserKey → List Entry → List Entry
at_or_past from es = filter (λ e. user_le from e.user) es

-- the same of entries with their depths, or with the numbers of their files
abbrev pub placed_past : UserKey → List Placed → List Placed
placed_past from ps = filter (λ p. user_le from p.1.user) ps

-- The first of these tables has an entry whose user key is at or past this one.
abbrev pub IsReached : UserKey → List (List ℕ) → Type 0
IsReached from [] = ⊥
IsReached from (image ∷ images) = at_or_past from (entries_in image) ≢ []
