-- The bytes of a write batch, as LevelDB writes them (`db/write_batch.cc`).
use Rattle.std.specs.Prelude.{ℕ, ◌+◌, ◌^◌, ◌<◌, ◌≤◌, List, [], ◌∷◌, ◌++◌, length, All, Option}
use Rattle.std.specs.Prelude.{None, Some}
use Rattle.std.specs.Int.{w32, w64, to_le_bytes}
use Rattle.lsm_codec.specs.Varint.{varint32}
use Rattle.lsm_batch.specs.declared.write.Write.{Write}
use Rattle.lsm_batch.specs.Batches.{value_of}
use Rattle.lsm_wal.specs.declared.write_batch.WriteBatch.{WriteBatch}

-- the shortest varint32 of the length, and the bytes
unfoldable pub bytes_text : List ℕ → List ℕ
bytes_text bytes = varint32 (length bytes) ++ bytes

abbrev pub keyed_text : List ℕ → Option (List ℕ) → List ℕ
keyed_text key None = 0 ∷ bytes_text key
keyed_text key (Some value) = 1 ∷ (bytes_text key ++ bytes_text value)

abbrev pub write_text : Write → List ℕ
write_text w = keyed_text w.key w.value

unfoldable pub writes_text : List Write → List ℕ
writes_text [] = []
writes_text (w ∷ ws) = write_text w ++ writes_text ws

unfoldable pub batch_text : WriteBatch → List ℕ
batch_text b =
    to_le_bytes w64 b.first ++ (to_le_bytes w32 (length b.writes) ++ writes_text b.writes)

-- key and value have lengths of 32 bits
abbrev pub IsShort : Write → Type 0
IsShort w = (length w.key < 2 ^ 32) × (length (value_of w.value) < 2 ^ 32)

-- what has a spelling
pub record CanBeSpelled (b : WriteBatch) : Type 0 where
  pub few : length b.writes < 2 ^ 32
  pub fits : b.first + length b.writes ≤ 2 ^ 56
  pub short : All IsShort b.writes
