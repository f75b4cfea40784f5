-- Judging a data block by its first and last entry.
use Rattle.std.specs.Prelude.{◌≡◌, ℕ, Bool, true, List, Option, Some, None}
use Rattle.std.specs.Ordering.{is_lt}
use Rattle.lsm_codec.specs.Keys.{InternalKey, key_cmp}
use Rattle.lsm_block.specs.Held.{HeldBlock, Position, rest_of}
use Rattle.lsm_table.specs.Reading.{settled}
use Rattle.lsm_table.specs.TableReading.{data_at}

-- whether a key comes after another one, where there is one
abbrev pub comes_after : Option InternalKey → InternalKey → Bool
comes_after None key = true
comes_after (Some bound) key = is_lt (key_cmp bound key)

-- What two cursors over an index tell while its data blocks are judged: one stands at the entry
-- that comes next, the other is one entry behind when its key is asked for, and else at the same
-- place. What comes next does not begin before the offset.
pub record Judged (body : List ℕ) (index : HeldBlock) (from : ℕ) (before here : Position)
    : Type 0 where
  pub left : settled (data_at body from before.last (rest_of index here))
      ≡ settled (data_at body 0 None index.entries)
  pub same : rest_of index before ≡ rest_of index here
