-- A log that is read up to its first fault (this project's rule; LevelDB drops what is at fault,
-- and goes on behind it).
use Rattle.std.specs.Prelude.{◌≡◌, ◌⊎◌, ℕ, suc, ◌+◌, ◌<◌, ◌≤◌, List, length, take, Err}
use Rattle.lsm_wal.specs.declared.write_batch.WriteBatch.{WriteBatch}
use Rattle.lsm_wal.specs.declared.write_log_fault.WriteLogFault.{WriteLogFault}
use Rattle.lsm_wal.specs.declared.write_log_fault.WriteLogFault.TheVariants.{SequenceOrder}
use Rattle.lsm_wal.specs.Reading.{log_writes_at}
use Rattle.lsm_wal.specs.WriteLog.{IsWriteLog}
use Rattle.lsm_wal.specs.WriteLogs.{BeginBelow}

-- The bytes are a log of these batches, of which the first does not begin below this sequence.
pub record IsLogAbove (least : ℕ) (bytes : List ℕ) (batches : List WriteBatch) (rest : ℕ) : Type 0
  where
    pub log : IsWriteLog bytes batches rest
    pub above : BeginBelow least batches → ⊥

-- They are none: they have this fault, or they are a log, and its first batch begins below.
abbrev pub IsFaultAbove : ℕ → List ℕ → WriteLogFault → Type 0
IsFaultAbove least bytes e =
    (log_writes_at bytes ≡ Err e) ⊎ ((e ≡ SequenceOrder) × ((batches : List WriteBatch)
    × (rest : ℕ) × IsWriteLog bytes batches rest × BeginBelow least batches))

-- The longest front of the bytes that is such a log. It is not all of them: with the next byte it
-- has this fault. So many bytes are left out, those behind its last whole record.
pub record IsFront (least : ℕ) (bytes : List ℕ) (batches : List WriteBatch) (left : ℕ)
    (fault : WriteLogFault) : Type 0 where
  pub size : ℕ
  pub rest : ℕ
  pub within : size < length bytes
  pub log : IsLogAbove least (take size bytes) batches rest
  pub longest : (n : ℕ) → size < n → n ≤ length bytes → (bs : List WriteBatch) (m : ℕ)
      → IsLogAbove least (take n bytes) bs m → ⊥
  pub next : IsFaultAbove least (take (suc size) bytes) fault
  pub left_is : left + size ≡ length bytes + rest
