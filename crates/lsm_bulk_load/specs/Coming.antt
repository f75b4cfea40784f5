-- What batches that come in one after another leave of what had come in (this project's rule).
use Rattle.std.specs.Prelude.{◌≡◌, ℕ, suc, ◌+◌, List, [], ◌∷◌, ◌++◌, length, Option, Some, None}
use Rattle.lsm_codec.specs.Entries.{Entry}
use Rattle.lsm_batch.specs.Batches.{entries_from}
use Rattle.lsm_batch.specs.declared.write.Write.{Write}
use Rattle.lsm_bulk_load.specs.Marks.{Marked}

-- the last sequence after them, where this was the last one before
abbrev pub last_after : ℕ → List (List Write) → ℕ
last_after last [] = last
last_after last (b ∷ bs) = last_after (last + length b) bs

-- all that has come in after them, the entries of the last batch in front, where this was all
-- before
abbrev pub all_after : ℕ → List (List Write) → List Entry → List Entry
all_after last [] history = history
all_after last (b ∷ bs) history =
    all_after (last + length b) bs (entries_from (suc last) b ++ history)

-- what a read gives of a key of which this is written last, if anything is, where it gave this
-- before
abbrev pub over : Option Write → Option (List ℕ) → Option (List ℕ)
over None old = old
over (Some w) old = w.value

-- Behind what was there came just this batch, under the next sequences.
pub record ComesNext (batch : List Write) (was now : Marked) : Type 0 where
  pub history : now.history ≡ entries_from (suc was.last) batch ++ was.history
  pub last : now.last ≡ was.last + length batch

-- Since it was found came just these batches, in their order.
pub record CameIn (found now : Marked) (batches : List (List Write)) : Type 0 where
  pub history : now.history ≡ all_after found.last batches found.history
  pub last : now.last ≡ last_after found.last batches
