-- What a database answers once the writes of its logs came in (LevelDB's `DBImpl::Get` asks the
-- memtable, which a log is read into, before the tables).
use Rattle.std.specs.Prelude.{ℕ, ◌≤◌, List, Option, None, Some}
use Rattle.lsm_codec.specs.Lists.{Has}
use Rattle.lsm_codec.specs.Entries.{Entry, answer}
use Rattle.lsm_codec.specs.Keys.{UserKey}
use Rattle.lsm_batch.specs.LastWrites.{last_write}
use Rattle.lsm_batch.specs.declared.write.Write.{Write}
use Rattle.lsm_wal.specs.WriteLog.{writes_of}
use Rattle.lsm_wal.specs.declared.write_batch.WriteBatch.{WriteBatch}

-- no entry is above the last sequence
abbrev pub NoneAbove : ℕ → List Entry → Type 0
NoneAbove last es = (e : Entry) → Has es e → e.seq ≤ last

-- what a read gives where a write came in over what was there, or none did
abbrev pub value_over : Option Write → Option (List ℕ) → Option (List ℕ)
value_over None before = before
value_over (Some w) before = w.value

-- What LevelDB reads of a key where tables have these entries, none above this sequence, and logs
-- these batches: their last write of the key, or what the tables have where they write none.
abbrev pub source_answer : List Entry → ℕ → List WriteBatch → UserKey → Option (List ℕ)
source_answer entries last batches key =
    value_over (last_write key (writes_of batches)) (answer entries key last)
