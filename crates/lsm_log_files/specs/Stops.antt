-- Logs that are read up to the first fault (this project's rule; LevelDB drops what is at fault,
-- and goes on behind it).
use Rattle.std.specs.Prelude.{◌≡◌, ◌⊎◌, ℕ, suc, ◌+◌, Bool, true, List, [], ◌∷◌, ◌++◌, Option, None}
use Rattle.std.specs.Prelude.{Some, codes, decimal, length}
use Rattle.lsm_folder.specs.Calls.{Call}
use Rattle.lsm_shelf.specs.Asked.{Asked}
use Rattle.lsm_shelf.specs.Told.{Told}
use Rattle.lsm_shelf.specs.declared.shelf_fault.ShelfFault.{ShelfFault}
use Rattle.lsm_manifest.specs.Shape.{Form}
use Rattle.lsm_directory.specs.declared.folder.folder_file.FolderFile.{FolderFile}
use Rattle.lsm_wal.specs.Front.{IsFront}
use Rattle.lsm_wal.specs.WriteLog.{after}
use Rattle.lsm_wal.specs.WriteLogFault.{name_of, number_of}
use Rattle.lsm_wal.specs.WriteLogs.{AreInRow}
use Rattle.lsm_wal.specs.declared.write_batch.WriteBatch.{WriteBatch}
use Rattle.lsm_wal.specs.declared.write_log_fault.WriteLogFault.{WriteLogFault}
use Rattle.lsm_log_files.specs.Logs.{AreLogs, AreRead, IsGiven, log_name}
use Rattle.lsm_log_files.specs.Source.{HasShape, IsNoSource, IsSource}
use Rattle.lsm_log_files.specs.declared.log_stop.LogStop.{LogStop}
use Rattle.lsm_log_files.specs.declared.source_fault.SourceFault.{SourceFault}
use Rattle.lsm_log_files.specs.declared.source_fault.SourceFault.TheVariants.{BadLog}

-- The folder was asked for the log of this number, and for nothing else. What its longest front
-- that is a log behind these batches holds came behind them; so many bytes of it were left out, for
-- this fault.
pub record ReadsFront (number : ℕ) (fault : WriteLogFault) (left : ℕ)
    (before now : List WriteBatch) (old new : List Call) : Type 0 where
  pub bytes : List ℕ
  pub given : IsGiven number bytes old new
  pub batches : List WriteBatch
  pub front : IsFront (after 0 before) bytes batches left fault
  pub more : now ≡ before ++ batches

-- The logs before the one of the stop were read, then that one up to its first fault, and none of
-- the later ones: so many logs in all. So many bytes at the ends of the former hold no whole
-- record.
pub record AreReadTo (stop : LogStop) (numbers : List ℕ) (batches : List WriteBatch)
    (count rest : ℕ) (old new : List Call) : Type 0 where
  pub front : List ℕ
  pub back : List ℕ
  pub parts : numbers ≡ front ++ stop.log ∷ back
  pub counted : count ≡ suc (length front)
  pub later : stop.later ≡ length back
  pub before : List WriteBatch
  pub mid : List Call
  pub read : AreRead front before rest old mid
  pub last : ReadsFront stop.log stop.fault stop.bytes before batches mid new

-- The manifest came to this shape, and of the logs beside its tables these are the batches up to
-- the first fault, none of which begins below the end of the one before.
pub record IsFrontSource (stop : LogStop) (files : List FolderFile) (shape : Form)
    (batches : List WriteBatch) (count rest : ℕ) (old new : List Call) (was is : Told) : Type 0
  where
    pub torn : ℕ
    pub has : HasShape shape torn was is
    pub numbers : List ℕ
    pub logs : AreLogs shape.log shape.prev_log files numbers
    pub tail : ℕ
    pub read : AreReadTo stop numbers batches count tail old new
    pub row : AreInRow batches
    pub rests : rest ≡ torn + tail

-- All logs were read whole; or up to the first fault, where this is asked for.
abbrev pub IsSourceTo : (to_first_fault : Bool) → Option LogStop → List FolderFile → Form
    → List WriteBatch → (count rest : ℕ) → (old new : List Call) → (was is : Told) → Type 0
IsSourceTo to_first_fault None files shape batches count rest old new was is =
    IsSource files shape batches count rest old new was is
IsSourceTo to_first_fault (Some stop) files shape batches count rest old new was is =
    (to_first_fault ≡ true)
    × IsFrontSource stop files shape batches count rest old new was is

-- a log is damaged, or begins below the end of the one before
abbrev pub IsBadLog : SourceFault → Type 0
IsBadLog fault = (number : ℕ) × (e : WriteLogFault) × (fault ≡ BadLog number e)

-- Why it was not read. No log is refused for its damage where what stands before it is asked for.
abbrev pub IsNoSourceTo : (to_first_fault : Bool) → (Asked → ShelfFault → Type 0)
    → List FolderFile → SourceFault → (old new : List Call) → (was is : Told) → Type 0
IsNoSourceTo to_first_fault Refused files fault old new was is =
    IsNoSource Refused files fault old new was is
    × (to_first_fault ≡ true → IsBadLog fault → ⊥)

-- ---- what is told

-- `N.log has F NAME`
abbrev pub fault_text : ℕ → WriteLogFault → List ℕ
fault_text log fault = log_name log
    ++ (codes " has " ++ (decimal (number_of fault) ++ (codes " " ++ name_of fault)))

-- `note: N.log has F NAME: its last B bytes and L later logs are left out`
abbrev pub stop_text : LogStop → List ℕ
stop_text s = codes "note: "
    ++ (fault_text s.log s.fault ++ (codes ": its last " ++ (decimal s.bytes ++ (codes " bytes and "
    ++ (decimal s.later ++ (codes " later logs are left out" ++ (10 ∷ [])))))))

-- that, where something was left out
abbrev pub left_text : Option LogStop → List ℕ
left_text None = []
left_text (Some stop) = stop_text stop
