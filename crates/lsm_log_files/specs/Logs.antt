-- Which logs of a folder LevelDB reads, and how they are read (its `DBImpl::Recover` of
-- `db/db_impl.cc`).
use Rattle.std.specs.Prelude.{◌≡◌, ◌⊎◌, ◌↔◌, ℕ, ◌+◌, ◌<◌, List, ◌∷◌, ◌++◌, Ok, Err, All, codes, map}
use Rattle.std.specs.Prelude.{reverse, string_bytes}
use Rattle.std.specs.List.{flat_map, sum_by}
use Rattle.std.specs.List.Sorted.{IsStrictlyIncreasing}
use Rattle.lsm_codec.specs.Lists.{Has}
use Rattle.lsm_folder.specs.Calls.{Call, loaded}
use Rattle.lsm_folder.specs.declared.folder_fault.FolderFault.{FolderFault}
use Rattle.lsm_storage.specs.FileNames.{padded}
use Rattle.lsm_storage.specs.FolderFault.{missing_of}
use Rattle.lsm_directory.specs.Logs.{IsLogName, IsReached}
use Rattle.lsm_directory.specs.declared.folder.folder_file.FolderFile.{FolderFile}
use Rattle.lsm_wal.specs.WriteLog.{IsWriteLog}
use Rattle.lsm_wal.specs.WriteLogs.{IsReadRefusal}
use Rattle.lsm_wal.specs.declared.write_batch.WriteBatch.{WriteBatch}
use Rattle.lsm_wal.specs.declared.write_log_fault.WriteLogFault.{WriteLogFault}
use Rattle.lsm_log_files.specs.declared.source_fault.SourceFault.{SourceFault}
use Rattle.lsm_log_files.specs.declared.source_fault.SourceFault.TheVariants.{OutOfMemory}
use Rattle.lsm_log_files.specs.declared.source_fault.SourceFault.TheVariants.{UnreadLog, BadLog}

-- the file is the log of this number, is not empty, and LevelDB reads it
abbrev pub IsLogOf : (log prev : ℕ) → FolderFile → ℕ → Type 0
IsLogOf log prev file n = (0 < file.size) × IsLogName (string_bytes file.name) n
    × IsReached log prev n

-- one of the files is
abbrev pub IsLogAmong : (log prev : ℕ) → List FolderFile → ℕ → Type 0
IsLogAmong log prev files n = (file : FolderFile) × Has files file × IsLogOf log prev file n

-- the numbers of these logs
abbrev pub AreNumbers : (log prev : ℕ) → List FolderFile → List ℕ → Type 0
AreNumbers log prev files numbers = (n : ℕ) → Has numbers n ↔ IsLogAmong log prev files n

-- The second list has, beside the numbers of the first, that of the file, if it is such a log.
abbrev pub AddsNumber : (log prev : ℕ) → FolderFile → List ℕ → List ℕ → Type 0
AddsNumber log prev file old new = (n : ℕ) → Has new n ↔ (Has old n ⊎ IsLogOf log prev file n)

-- the numbers of these logs, ascending, each once
pub record AreLogs (log prev : ℕ) (files : List FolderFile) (numbers : List ℕ) : Type 0 where
  pub ascending : IsStrictlyIncreasing numbers
  pub all : AreNumbers log prev files numbers

-- the name of the file of a log (`LogFileName` of LevelDB's `db/filename.cc`)
abbrev pub log_name : ℕ → List ℕ
log_name n = padded n ++ codes ".log"

-- a log as it was read: its number, its bytes, their batches, and how many bytes at the end hold no
-- whole record
pub record LogRead : Type 0 where
  pub number : ℕ
  pub bytes : List ℕ
  pub batches : List WriteBatch
  pub rest : ℕ

abbrev pub IsSpelled : LogRead → Type 0
IsSpelled l = IsWriteLog l.bytes l.batches l.rest

abbrev pub call_of : LogRead → Call
call_of l = loaded (log_name l.number) (Ok l.bytes)

-- The folder was asked for the logs of these numbers, one after another, and for nothing else.
-- These are the batches of all, and so many bytes at their ends hold no whole record.
pub record AreRead (numbers : List ℕ) (batches : List WriteBatch) (rest : ℕ) (old new : List Call)
    : Type 0 where
  pub reads : List LogRead
  pub numbered : map (λ l. l.number) reads ≡ numbers
  pub spelled : All IsSpelled reads
  pub all : batches ≡ flat_map (λ l. l.batches) reads
  pub rests : rest ≡ sum_by (λ l. l.rest) reads
  pub calls : new ≡ reverse (map call_of reads) ++ old

-- The folder was asked for the log of this number, and for nothing else. Its batches came behind
-- those before, and so many bytes of its end to the others that hold no whole record.
pub record ReadsNext (number : ℕ) (before after : List WriteBatch) (rest sum : ℕ)
    (old new : List Call) : Type 0 where
  pub log : LogRead
  pub numbered : log.number ≡ number
  pub is : IsSpelled log
  pub more : after ≡ before ++ log.batches
  pub sums : sum ≡ rest + log.rest
  pub call : new ≡ call_of log ∷ old

-- ---- refusals

-- the folder gave the log of this number, which has these bytes
abbrev pub IsGiven : ℕ → List ℕ → List Call → List Call → Type 0
IsGiven number bytes old new = new ≡ loaded (log_name number) (Ok bytes) ∷ old

-- memory ran out, or the folder did not give it
abbrev pub IsUngiven : ℕ → SourceFault → List Call → List Call → Type 0
IsUngiven number fault old new = (fault ≡ OutOfMemory)
    ⊎ ((e : FolderFault) × (fault ≡ UnreadLog number (missing_of e))
    × (new ≡ loaded (log_name number) (Err e) ∷ old))

-- So it was; or its bytes are no log behind these batches.
abbrev pub IsLogStop : List WriteBatch → ℕ → SourceFault → List Call → List Call → Type 0
IsLogStop before number fault old new = IsUngiven number fault old new
    ⊎ ((bytes : List ℕ) × (e : WriteLogFault) × (fault ≡ BadLog number e)
    × IsGiven number bytes old new × IsReadRefusal before bytes e)

-- The first of the logs were read, and the next one was not, for such a fault.
pub record AreUnread (numbers : List ℕ) (fault : SourceFault) (old new : List Call) : Type 0 where
  pub front : List ℕ
  pub one : ℕ
  pub back : List ℕ
  pub parts : numbers ≡ front ++ one ∷ back
  pub batches : List WriteBatch
  pub rest : ℕ
  pub mid : List Call
  pub read : AreRead front batches rest old mid
  pub refused : IsLogStop batches one fault mid new
