-- Batches: their limits, their order and their entries (LevelDB's `db/write_batch.cc`; that keys
-- ascend and the limits are this project's rule).
use Rattle.std.specs.Prelude.{◌≡◌, ℕ, suc, ◌+◌, ◌-◌, ◌<◌, ◌⊎◌, List, [], ◌∷◌, length, sum_by}
use Rattle.std.specs.Prelude.{Option, None, Some, slice_index_or}
use Rattle.std.specs.Ordering.{nat_cmp}
use Rattle.std.specs.Cmp.Lexicographic.{slice_cmp}
use Rattle.std.specs.declared.cmp.Ordering.TheVariants.{Less}
use Rattle.lsm_codec.specs.Lists.{Has}
use Rattle.lsm_codec.specs.Entries.{Entry}
use Rattle.lsm_codec.specs.Keys.{UserKey}
use Rattle.lsm_codec.specs.declared.kind.Kind.{Kind}
use Rattle.lsm_codec.specs.declared.kind.Kind.TheVariants.{Deletion, Value}
use Rattle.lsm_batch.specs.Limits.{most_bytes, most_entries, most_key, most_value}
use Rattle.lsm_batch.specs.declared.batch_fault.BatchFault.{BatchFault}
use Rattle.lsm_batch.specs.declared.batch_fault.BatchFault.TheVariants.{EmptyBatch, KeyOrder}
use Rattle.lsm_batch.specs.declared.batch_fault.BatchFault.TheVariants.{TooLarge}
use Rattle.lsm_batch.specs.declared.write.Write.{Write}

-- ---- limits

-- the bytes that are written: none for a deletion
abbrev pub value_of : Option (List ℕ) → List ℕ
value_of None = []
value_of (Some value) = value

-- how many bytes key and value have
abbrev pub size_of : Write → ℕ
size_of w = length w.key + length (value_of w.value)

-- the key or the value is over its limit
abbrev pub IsLarge : Write → Type 0
IsLarge w = (most_key < length w.key) ⊎ (most_value < length (value_of w.value))

-- too many entries, too many bytes of keys and values, or a key or a value over its limit
abbrev pub IsTooLarge : List Write → Type 0
IsTooLarge ws = (most_entries < length ws)
    ⊎ ((most_bytes < sum_by size_of ws) ⊎ ((w : Write) × Has ws w × IsLarge w))

-- ---- order

-- the first user key is the lesser one
abbrev pub IsLess : UserKey → UserKey → Type 0
IsLess a b = slice_cmp nat_cmp a b ≡ Less

-- each of the first n keys is greater than the one before
abbrev pub KeysRise : ℕ → List Write → Type 0
KeysRise n ws = (i : ℕ) (d : Write) → suc i < n
    → IsLess (slice_index_or ws i d).key (slice_index_or ws (suc i) d).key

-- the key at this place is the first that is not greater than the one before
pub record IsMisplaced (ws : List Write) (i : ℕ) : Type 0 where
  pub later : 0 < i
  pub inside : i < length ws
  pub before : KeysRise i ws
  pub not_above : (d : Write) → IsLess (slice_index_or ws (i - 1) d).key (slice_index_or ws i d).key
      → ⊥

-- ---- batches that may come in

pub record IsBatch (ws : List Write) : Type 0 where
  pub some : ws ≡ [] → ⊥
  pub fits : IsTooLarge ws → ⊥
  pub rises : KeysRise (length ws) ws

-- Why a batch is refused: it has no entry; then a limit; then the order of its keys.
abbrev pub IsBatchRefusal : List Write → BatchFault → Type 0
IsBatchRefusal ws EmptyBatch = ws ≡ []
IsBatchRefusal ws TooLarge = (ws ≡ [] → ⊥) × IsTooLarge ws
IsBatchRefusal ws (KeyOrder i) = (IsTooLarge ws → ⊥) × IsMisplaced ws i

-- ---- entries

abbrev pub kind_of : Option (List ℕ) → Kind
kind_of None = Deletion
kind_of (Some value) = Value

-- what is written at a sequence
abbrev pub written_at : ℕ → Write → Entry
written_at seq w = record {
  user = w.key;
  seq = seq;
  kind = kind_of w.value;
  value = value_of
      w.value;
}

-- the entries of a batch, under sequences one after another from this one
abbrev pub entries_from : ℕ → List Write → List Entry
entries_from seq [] = []
entries_from seq (w ∷ ws) = written_at seq w ∷ entries_from (suc seq) ws
