-- What a write-ahead log is: a record log (LevelDB's `doc/log_format.md`) whose records are write
-- batches, of the shape that the comment at the head of `db/write_batch.cc` gives: the sequence, a
-- fixed64; the count, a fixed32; then kTypeValue (1) varstring varstring or kTypeDeletion (0)
-- varstring, where a varstring is a varint32 length and so many bytes. That no batch begins below
-- the end of the one before is this project's rule; LevelDB writes no other logs.
use Rattle.std.specs.Prelude.{◌≡◌, ℕ, ◌+◌, ◌^◌, ◌<◌, ◌≤◌, ⊤, List, [], ◌∷◌, ◌++◌, length, take}
use Rattle.std.specs.Prelude.{Option, None, Some}
use Rattle.std.specs.Int.{w32, w64, to_le_bytes}
use Rattle.lsm_codec.specs.Varint.{IsVarint32}
use Rattle.lsm_codec.specs.Entries.{Entry}
use Rattle.lsm_manifest.specs.Log.{IsLog}
use Rattle.lsm_batch.specs.declared.write.Write.{Write}
use Rattle.lsm_batch.specs.Batches.{entries_from}
use Rattle.lsm_wal.specs.declared.write_batch.WriteBatch.{WriteBatch}

-- ---- a batch

-- a varstring: a length and so many bytes
pub record BytesText (bytes own : List ℕ) : Type 0 where
  pub size_text : List ℕ
  pub size_is : IsVarint32 size_text (length bytes)
  pub own_is : own ≡ size_text ++ bytes

-- 0 and the key
pub record DeletionText (key own : List ℕ) : Type 0 where
  pub key_text : List ℕ
  pub key_is : BytesText key key_text
  pub own_is : own ≡ 0 ∷ key_text

-- 1, the key and the value
pub record PutText (key value own : List ℕ) : Type 0 where
  pub key_text : List ℕ
  pub value_text : List ℕ
  pub key_is : BytesText key key_text
  pub value_is : BytesText value value_text
  pub own_is : own ≡ 1 ∷ (key_text ++ value_text)

-- of a key with its new value, or with none for a deletion
abbrev pub KeyedText : List ℕ → Option (List ℕ) → List ℕ → Type 0
KeyedText key None own = DeletionText key own
KeyedText key (Some value) own = PutText key value own

abbrev pub WriteText : Write → List ℕ → Type 0
WriteText w own = KeyedText w.key w.value own

-- The text is these writes, one after the other.
abbrev pub AreWrites : List Write → List ℕ → Type 0
AreWrites [] text = text ≡ []
AreWrites (w ∷ ws) text =
    (own later : List ℕ) × (text ≡ own ++ later) × WriteText w own × AreWrites ws later

-- The bytes are the first sequence, the number of writes, and the writes. Each write has the next
-- sequence, and none of them passes 2^56 - 1.
pub record IsWriteBatch (bytes : List ℕ) (batch : WriteBatch) : Type 0 where
  pub body : List ℕ
  pub bytes_are : bytes ≡ to_le_bytes w64 batch.first ++ (to_le_bytes w32 (length batch.writes)
      ++ body)
  pub few : length batch.writes < 2 ^ 32
  pub fits : batch.first + length batch.writes ≤ 2 ^ 56
  pub writes_are : AreWrites batch.writes body

-- ---- a log

-- Each record spells the batch in its place, and none begins below the end of the one before; the
-- first one not below least.
abbrev pub AreBatches : ℕ → List (List ℕ) → List WriteBatch → Type 0
AreBatches least [] [] = ⊤
AreBatches least [] (b ∷ bs) = ⊥
AreBatches least (r ∷ rs) [] = ⊥
AreBatches least (r ∷ rs) (b ∷ bs) =
    IsWriteBatch r b × (least ≤ b.first) × AreBatches (b.first + length b.writes) rs bs

-- The bytes spell the batches, a record each, and so many bytes at the end hold no whole record.
pub record IsWriteLog (bytes : List ℕ) (batches : List WriteBatch) (rest : ℕ) : Type 0 where
  pub records : List (List ℕ)
  pub log : IsLog bytes records rest
  pub spelled : AreBatches 0 records batches

-- The bytes are a log of the first of the batches, however many, and a rest.
pub record SpellsFirstBatches (bytes : List ℕ) (batches : List WriteBatch) : Type 0 where
  pub whole : ℕ
  pub rest : ℕ
  pub is : IsWriteLog bytes (take whole batches) rest

-- ---- what it writes

-- the sequence that the next batch may begin with
abbrev pub after : ℕ → List WriteBatch → ℕ
after least [] = least
after least (b ∷ bs) = after (b.first + length b.writes) bs

-- the writes in order
abbrev pub writes_of : List WriteBatch → List Write
writes_of [] = []
writes_of (b ∷ bs) = b.writes ++ writes_of bs

-- the entries in order, each at its sequence
abbrev pub entries_of : List WriteBatch → List Entry
entries_of [] = []
entries_of (b ∷ bs) = entries_from b.first b.writes ++ entries_of bs

-- what a read gives behind a write, if there is one: none too where it is a deletion
abbrev pub value_after : Option Write → Option (List ℕ)
value_after None = None
value_after (Some w) = w.value
