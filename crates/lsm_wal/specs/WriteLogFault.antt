-- The refusals of a write-ahead log: their numbers and names in docs/FORMATS.md, and those that are
-- the record log's (this project's rule).
use Rattle.std.specs.Prelude.{ℕ, List, codes}
use Rattle.lsm_manifest.specs.declared.log_fault.LogFault.{LogFault}
use Rattle.lsm_manifest.specs.declared.log_fault.LogFault.TheVariants as log
use Rattle.lsm_wal.specs.declared.write_log_fault.WriteLogFault.{WriteLogFault}
use Rattle.lsm_wal.specs.declared.write_log_fault.WriteLogFault.TheVariants.{OutOfMemory}
use Rattle.lsm_wal.specs.declared.write_log_fault.WriteLogFault.TheVariants.{LogChecksum, LogOrder}
use Rattle.lsm_wal.specs.declared.write_log_fault.WriteLogFault.TheVariants.{LogType, BatchShort}
use Rattle.lsm_wal.specs.declared.write_log_fault.WriteLogFault.TheVariants.{WriteKind, WriteCut}
use Rattle.lsm_wal.specs.declared.write_log_fault.WriteLogFault.TheVariants.{BatchCount}
use Rattle.lsm_wal.specs.declared.write_log_fault.WriteLogFault.TheVariants.{BatchSequence}
use Rattle.lsm_wal.specs.declared.write_log_fault.WriteLogFault.TheVariants.{SequenceOrder}

-- a fault of the record log
abbrev pub log_fault : LogFault → WriteLogFault
log_fault log.OutOfMemory = OutOfMemory
log_fault (log.LogChecksum offset) = LogChecksum offset
log_fault (log.LogOrder offset) = LogOrder offset
log_fault (log.LogType offset) = LogType offset

abbrev pub number_of : WriteLogFault → ℕ
number_of OutOfMemory = 1
number_of (LogChecksum offset) = 19
number_of (LogOrder offset) = 20
number_of (LogType offset) = 21
number_of BatchShort = 54
number_of (WriteKind kind) = 55
number_of WriteCut = 56
number_of BatchCount = 57
number_of BatchSequence = 58
number_of SequenceOrder = 59

abbrev pub name_of : WriteLogFault → List ℕ
name_of OutOfMemory = codes "OutOfMemory"
name_of (LogChecksum offset) = codes "LogChecksum"
name_of (LogOrder offset) = codes "LogOrder"
name_of (LogType offset) = codes "LogType"
name_of BatchShort = codes "BatchShort"
name_of (WriteKind kind) = codes "WriteKind"
name_of WriteCut = codes "WriteCut"
name_of BatchCount = codes "BatchCount"
name_of BatchSequence = codes "BatchSequence"
name_of SequenceOrder = codes "SequenceOrder"
