-- The manifest that a new one replaces, as far as it can be read: its log numbers, and the order of
-- its keys (that `repair` takes the numbers over is this project's rule; LevelDB's `db/repair.cc`
-- reads no manifest).
use Rattle.std.specs.Prelude.{◌≡◌, ◌≢◌, ◌⊎◌, ℕ, ◌==◌, ◌&&◌, Bool, true, false, List, [], ◌∷◌}
use Rattle.std.specs.Prelude.{length, take, Option, None, Some, Result, Ok, Err}
use Rattle.lsm_codec.specs.Lists.{Has}
use Rattle.lsm_shelf.specs.Asked.{Asked, ReadManifest}
use Rattle.lsm_shelf.specs.Told.{Becomes, Counted, Told, finding}
use Rattle.lsm_shelf.specs.declared.shelf_fault.ShelfFault.{ShelfFault}
use Rattle.lsm_shelf.specs.declared.shelf_fault.ShelfFault.TheVariants as shelf
use Rattle.lsm_manifest.specs.EditFit.{Change}
use Rattle.lsm_manifest.specs.EditReading.{edit_at}
use Rattle.lsm_manifest.specs.LogReading.{Whole, log_at}
use Rattle.lsm_manifest.specs.Replay.{NamesOther, last_log, last_prev_log}
use Rattle.lsm_manifest.specs.declared.edit_fault.EditFault.{EditFault}
use Rattle.lsm_manifest.specs.declared.log_fault.LogFault.{LogFault}
use Rattle.lsm_manifest.specs.declared.log_fault.LogFault.TheVariants as log
use Rattle.lsm_repair.specs.declared.mend_fault.MendFault.{MendFault}
use Rattle.lsm_repair.specs.declared.mend_fault.MendFault.TheVariants.{OutOfMemory}
use Rattle.lsm_repair.specs.declared.mend_fault.MendFault.TheVariants.{UnreadManifest}
use Rattle.lsm_repair.specs.declared.mend_fault.MendFault.TheVariants.{OtherComparator}
use Rattle.lsm_repair.specs.declared.old_logs.OldLogs.{OldLogs}

-- ---- its edits

-- where a log's first fault lies, in bytes
abbrev pub place_of : LogFault → ℕ
place_of log.OutOfMemory = 0
place_of (log.LogChecksum offset) = offset
place_of (log.LogOrder offset) = offset
place_of (log.LogType offset) = offset

-- the bytes in front of it; all where there is none
abbrev pub front_by : Result Whole LogFault → List ℕ → List ℕ
front_by (Ok whole) bytes = bytes
front_by (Err fault) bytes = take (place_of fault) bytes

abbrev pub records_by : Result Whole LogFault → List (List ℕ)
records_by (Ok whole) = whole.0
records_by (Err fault) = []

-- the records of a log in front of its first fault
abbrev pub first_records : List ℕ → List (List ℕ)
first_records bytes = records_by (log_at (front_by (log_at bytes) bytes))

abbrev pub edits_by : Result Change EditFault → List Change → List Change
edits_by (Ok edit) later = edit ∷ later
edits_by (Err fault) later = []

-- the edits of records in front of the first that is none
abbrev pub first_edits : List (List ℕ) → List Change
first_edits [] = []
first_edits (one ∷ records) = edits_by (edit_at one) (first_edits records)

-- the edits of a manifest in front of its first fault
abbrev pub edits_in : List ℕ → List Change
edits_in bytes = first_edits (first_records bytes)

-- ---- what they say

abbrev pub ends_whole : Result Whole LogFault → Bool
ends_whole (Ok whole) = whole.1 == 0
ends_whole (Err fault) = false

abbrev pub is_some : Option ℕ → Bool
is_some None = false
is_some (Some n) = true

-- A manifest without a fault, to its last byte, which has a log number.
abbrev pub is_whole : List ℕ → Bool
is_whole bytes = ends_whole (log_at bytes)
    && (length (edits_in bytes) == length (first_records bytes)
    && is_some (last_log (edits_in bytes)))

abbrev pub number_or_none : Option ℕ → ℕ
number_or_none None = 0
number_or_none (Some n) = n

-- the number of a manifest, and the last log numbers that its edits have, 0 for one that none has
abbrev pub logs_in : ℕ → List ℕ → OldLogs
logs_in number bytes = record {
  manifest = number;
  log = number_or_none (last_log (edits_in bytes));
  prev_log = number_or_none (last_prev_log (edits_in bytes));
  is_whole = is_whole bytes;
}

-- of a manifest of this number and these bytes; of none: LevelDB reads each log
abbrev pub logs_of : Option (ℕ × List ℕ) → OldLogs
logs_of None = record { manifest = 0; log = 0; prev_log = 0; is_whole = false }
logs_of (Some found) = logs_in found.0 found.1

-- one of these edits names a comparator other than LevelDB's own
abbrev pub NamesAnother : List Change → Type 0
NamesAnother edits = (edit : Change) × Has edits edit × NamesOther edit

abbrev pub IsBytewise : Option (ℕ × List ℕ) → Type 0
IsBytewise None = Unit {0}
IsBytewise (Some found) = NamesAnother (edits_in found.1) → ⊥

-- ---- from a shelf

-- The shelf gave its manifest, of this number and these bytes; or it was asked, and has none.
abbrev pub GivesManifest : (Asked → ShelfFault → Type 0) → Option (ℕ × List ℕ) → Told → Told
    → Type 0
GivesManifest Denied None was is =
    Becomes was is × Denied ReadManifest shelf.Missing × Counted shelf.Missing was is
GivesManifest Denied (Some found) was is = Becomes (finding found.0 found.1 was) is

-- So it did, the keys are in bytewise order, and these are the logs.
pub record IsOld (Denied : Asked → ShelfFault → Type 0) (logs : OldLogs) (was is : Told) : Type 0
  where
    pub found : Option (ℕ × List ℕ)
    pub given : GivesManifest Denied found was is
    pub bytewise : IsBytewise found
    pub says : logs ≡ logs_of found

-- Memory ran out; or the shelf has a manifest, was asked, and did not give it; or that names
-- another comparator.
abbrev pub IsNotOld : (Asked → ShelfFault → Type 0) → MendFault → Told → Told → Type 0
IsNotOld Denied fault was is =
    (fault ≡ OutOfMemory)
    ⊎ (((e : ShelfFault) × (fault ≡ UnreadManifest e) × (e ≢ shelf.Missing)
    × Denied ReadManifest e × Counted e was is)
    ⊎ ((number : ℕ) × (bytes : List ℕ) × GivesManifest Denied (Some (number, bytes)) was is
    × NamesAnother (edits_in bytes) × (fault ≡ OtherComparator)))
