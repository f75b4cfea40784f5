-- Logs that are read one behind another (LevelDB's `DBImpl::Recover`, in the order of their
-- numbers; that none begins below the end of the one before is this project's rule).
use Rattle.std.specs.Prelude.{◌≡◌, ◌⊎◌, ℕ, ◌<◌, List, [], ◌∷◌}
use Rattle.lsm_wal.specs.declared.write_batch.WriteBatch.{WriteBatch}
use Rattle.lsm_wal.specs.declared.write_log_fault.WriteLogFault.{WriteLogFault}
use Rattle.lsm_wal.specs.declared.write_log_fault.WriteLogFault.TheVariants.{SequenceOrder}
use Rattle.lsm_wal.specs.Reading.{log_writes_at}
use Rattle.lsm_wal.specs.View.{Fails}
use Rattle.lsm_wal.specs.WriteLog.{AreBatches, IsWriteLog, after}

-- the batches are those of records in a row
abbrev pub AreInRow : List WriteBatch → Type 0
AreInRow bs = (records : List (List ℕ)) × AreBatches 0 records bs

-- the first of the batches begins below this sequence
abbrev pub BeginBelow : ℕ → List WriteBatch → Type 0
BeginBelow least [] = ⊥
BeginBelow least (b ∷ bs) = b.first < least

-- Why a log is not read behind these batches: its first fault, unless memory ran out; or it begins
-- below their end.
abbrev pub IsReadRefusal : List WriteBatch → List ℕ → WriteLogFault → Type 0
IsReadRefusal before bytes e =
    Fails e (log_writes_at bytes) ⊎ ((e ≡ SequenceOrder) × ((batches : List WriteBatch)
    × (rest : ℕ) × IsWriteLog bytes batches rest × BeginBelow (after 0 before) batches))
