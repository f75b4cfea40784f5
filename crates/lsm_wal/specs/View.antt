-- What the readers of a write-ahead log return, as reading on lists gives it.
use Rattle.std.specs.Prelude.{ℕ, Bool, true, false, List, Result}
use Rattle.lsm_codec.specs.Gives as answer
use Rattle.lsm_wal.specs.declared.write_log_fault.WriteLogFault.{WriteLogFault}
use Rattle.lsm_wal.specs.declared.write_log_fault.WriteLogFault.TheVariants.{OutOfMemory}
use Rattle.lsm_wal.specs.declared.write_log_fault.WriteLogFault.TheVariants.{LogChecksum, LogOrder}
use Rattle.lsm_wal.specs.declared.write_log_fault.WriteLogFault.TheVariants.{LogType, BatchShort}
use Rattle.lsm_wal.specs.declared.write_log_fault.WriteLogFault.TheVariants.{WriteKind, WriteCut}
use Rattle.lsm_wal.specs.declared.write_log_fault.WriteLogFault.TheVariants.{BatchCount}
use Rattle.lsm_wal.specs.declared.write_log_fault.WriteLogFault.TheVariants.{BatchSequence}
use Rattle.lsm_wal.specs.declared.write_log_fault.WriteLogFault.TheVariants.{SequenceOrder}
use Rattle.lsm_wal.specs.declared.write_batch.WriteBatch.{WriteBatch}
use Rattle.lsm_wal.specs.declared.write_log.WriteLog.{WriteLog}

abbrev pub is_memory : WriteLogFault → Bool
is_memory OutOfMemory = true
is_memory (LogChecksum offset) = false
is_memory (LogOrder offset) = false
is_memory (LogType offset) = false
is_memory BatchShort = false
is_memory (WriteKind kind) = false
is_memory WriteCut = false
is_memory BatchCount = false
is_memory BatchSequence = false
is_memory SequenceOrder = false

-- The fault is the one that reading gives, unless memory ran out.
abbrev pub Fails : {Y : Type 0} → WriteLogFault → Result Y WriteLogFault → Type 0
Fails fault read = answer.Fails is_memory fault read

-- What was returned is what reading gives, unless memory ran out.
abbrev pub Gives : {X Y : Type 0} → (X → Y) → Result X WriteLogFault → Result Y WriteLogFault
    → Type 0
Gives see result read = answer.Gives is_memory see result read

abbrev pub seen : WriteLog → List WriteBatch × ℕ
seen log = (log.batches, log.rest)
