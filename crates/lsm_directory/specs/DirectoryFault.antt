-- Why a command on a directory is refused, and what it prints of that: this project's rule.
use Rattle.std.specs.Prelude.{ℕ, List, [], codes, Option, Some, None}
use Rattle.lsm_table.specs.declared.read_fault.ReadFault.{ReadFault}
use Rattle.lsm_table.specs.declared.read_fault.ReadFault.TheVariants as read_faults
use Rattle.lsm_table.specs.declared.table_fault.TableFault.{TableFault}
use Rattle.lsm_table.specs.declared.table_fault.TableFault.TheVariants as table_faults
use Rattle.lsm_shelf.specs.declared.shelf_fault.ShelfFault.{ShelfFault}
use Rattle.lsm_shelf.specs.declared.shelf_fault.ShelfFault.TheVariants as shelf_faults
use Rattle.lsm_shelf.specs.ShelfFault as shelf
use Rattle.lsm_manifest.specs.LogFault as log
use Rattle.lsm_manifest.specs.declared.log_fault.LogFault.{LogFault}
use Rattle.lsm_manifest.specs.declared.log_fault.LogFault.TheVariants as log_faults
use Rattle.lsm_manifest.specs.EditFault as edit
use Rattle.lsm_manifest.specs.declared.edit_fault.EditFault.{EditFault}
use Rattle.lsm_manifest.specs.declared.edit_fault.EditFault.TheVariants as edit_faults
use Rattle.lsm_manifest.specs.ReplayFault as replay
use Rattle.lsm_manifest.specs.declared.replay_fault.ReplayFault.{ReplayFault}
use Rattle.lsm_manifest.specs.declared.replay_fault.ReplayFault.TheVariants as replay_faults
use Rattle.lsm_table.specs.ReadFault as read
use Rattle.lsm_verify.specs.CheckFault as check
use Rattle.lsm_journal.specs.RecoverFault as recover
use Rattle.lsm_journal.specs.declared.recover_fault.RecoverFault.{RecoverFault}
use Rattle.lsm_journal.specs.declared.recover_fault.RecoverFault.TheVariants as recover_faults
use Rattle.lsm_journal.specs.declared.open_fault.OpenFault.{OpenFault}
use Rattle.lsm_journal.specs.declared.open_fault.OpenFault.TheVariants as open_faults
use Rattle.lsm_verify.specs.declared.check_fault.CheckFault.{CheckFault}
use Rattle.lsm_verify.specs.declared.check_fault.CheckFault.TheVariants as check_faults
use Rattle.lsm_text.specs.FaultText.{edit_field, log_field, read_field, refusal_text, replay_field}
use Rattle.lsm_text.specs.FaultText.{shelf_field}
use Rattle.lsm_directory.specs.declared.faults.directory_fault.DirectoryFault.{DirectoryFault}
use Rattle.lsm_directory.specs.declared.faults.directory_fault.DirectoryFault.TheVariants.{
  OutOfMemory,
  Write,
  Shelf,
  Manifest,
  Tables,
  Read,
  NumbersSpent,
  Locked,
  UnflushedLog,
  TornManifest,
  LaterManifest,
  RocksDbFiles,
  Absent,
}

-- a directory that could not be opened
abbrev pub of_open : OpenFault → DirectoryFault
of_open open_faults.OutOfMemory = OutOfMemory
of_open (open_faults.Shelf fault) = Shelf fault
of_open (open_faults.Recover fault) = Manifest fault
of_open (open_faults.Check fault) = Tables fault
of_open open_faults.NumbersSpent = NumbersSpent

abbrev pub shelf_text : ShelfFault → List ℕ
shelf_text fault = refusal_text (shelf.number_of fault) (shelf.name_of fault) (shelf_field fault)

abbrev pub replay_text : ReplayFault → List ℕ
replay_text fault = refusal_text (replay.number_of fault) (replay.name_of fault)
    (replay_field fault)

abbrev pub read_text : ReadFault → List ℕ
read_text fault = refusal_text (read.number_of fault) (read.name_of fault) (read_field fault)

abbrev pub recover_text : RecoverFault → List ℕ
recover_text (recover_faults.Shelf fault) = shelf_text fault
recover_text (recover_faults.Log fault) =
    refusal_text (log.number_of fault) (log.name_of fault) (log_field fault)
recover_text (recover_faults.Edit fault) =
    refusal_text (edit.number_of fault) (edit.name_of fault) (edit_field fault)
recover_text (recover_faults.Replay fault) = replay_text fault

-- A key against age is spelled as a word, which is tested.
abbrev pub check_text : CheckFault → Option (List ℕ)
check_text (check_faults.Read file fault) = Some (read_text fault)
check_text (check_faults.DoubleFile number) =
    Some (refusal_text 30 (codes "DoubleFile") (Some number))
check_text (check_faults.Overlap level) = Some (refusal_text 31 (codes "Overlap") (Some level))
check_text (check_faults.WrongRange number) =
    Some (refusal_text 32 (codes "WrongRange") (Some number))
check_text (check_faults.AgeOrder user) = None

abbrev pub fault_text : DirectoryFault → Option (List ℕ)
fault_text OutOfMemory = Some (refusal_text 1 (codes "OutOfMemory") None)
fault_text Write = Some (codes "write fault")
fault_text (Shelf fault) = Some (shelf_text fault)
fault_text (Manifest fault) = Some (recover_text fault)
fault_text (Tables fault) = check_text fault
fault_text (Read fault) = Some (read_text fault)
fault_text NumbersSpent = Some (refusal_text 46 (codes "NumbersSpent") None)
fault_text Locked = Some (refusal_text 52 (codes "Locked") None)
fault_text (UnflushedLog number) =
    Some (refusal_text 51 (codes "UnflushedLog") (Some number))
fault_text (TornManifest rest) = Some (refusal_text 61 (codes "TornManifest") (Some rest))
fault_text (LaterManifest number) =
    Some (refusal_text 62 (codes "LaterManifest") (Some number))
fault_text RocksDbFiles = Some (refusal_text 63 (codes "RocksDbFiles") None)
fault_text Absent = Some (codes "absent")

-- the number of a refusal; none of a write that failed, and of a key that is absent
abbrev pub number_of : DirectoryFault → Option ℕ
number_of OutOfMemory = Some 1
number_of Write = None
number_of (Shelf fault) = Some (shelf.number_of fault)
number_of (Manifest fault) = Some (recover.number_of fault)
number_of (Tables fault) = Some (check.number_of fault)
number_of (Read fault) = Some (read.number_of fault)
number_of NumbersSpent = Some 46
number_of Locked = Some 52
number_of (UnflushedLog number) = Some 51
number_of (TornManifest rest) = Some 61
number_of (LaterManifest number) = Some 62
number_of RocksDbFiles = Some 63
number_of Absent = None

-- the number of the file that a refusal of its table names
abbrev pub file_in : CheckFault → Option ℕ
file_in (check_faults.Read file fault) = file
file_in (check_faults.DoubleFile number) = None
file_in (check_faults.Overlap level) = None
file_in (check_faults.WrongRange number) = None
file_in (check_faults.AgeOrder user) = None

abbrev pub file_of : DirectoryFault → Option ℕ
file_of OutOfMemory = None
file_of Write = None
file_of (Shelf fault) = None
file_of (Manifest fault) = None
file_of (Tables fault) = file_in fault
file_of (Read fault) = None
file_of NumbersSpent = None
file_of Locked = None
file_of (UnflushedLog number) = None
file_of (TornManifest rest) = None
file_of (LaterManifest number) = None
file_of RocksDbFiles = None
file_of Absent = None

-- ---- what a fault means, on a line of its own

-- of a manifest that is damaged
abbrev pub damaged : List ℕ
damaged = codes "in the manifest that CURRENT names; lsm repair DIR, or RepairDB, makes a new one\n"

-- of a manifest that is not there, or that CURRENT does not name in its form
abbrev pub unnamed : List ℕ
unnamed =
    codes "to name a manifest: echo MANIFEST-N > DIR/CURRENT; where none is whole: lsm repair DIR\n"

abbrev pub shelf_meaning : ShelfFault → List ℕ
shelf_meaning shelf_faults.OutOfMemory = []
shelf_meaning shelf_faults.Device = []
shelf_meaning shelf_faults.Missing = unnamed
shelf_meaning (shelf_faults.Taken number) = []

abbrev pub log_meaning : LogFault → List ℕ
log_meaning log_faults.OutOfMemory = []
log_meaning (log_faults.LogChecksum offset) = damaged
log_meaning (log_faults.LogOrder offset) = damaged
log_meaning (log_faults.LogType offset) = damaged

-- RocksDB's manifests have tags that LevelDB's have not
abbrev pub edit_meaning : EditFault → List ℕ
edit_meaning edit_faults.OutOfMemory = []
edit_meaning (edit_faults.UnknownTag tag) =
    codes "in the manifest that CURRENT names; RocksDB writes tags that LevelDB has not\n"
edit_meaning (edit_faults.BadLevel level) = damaged
edit_meaning edit_faults.EditCut = damaged
edit_meaning edit_faults.BadEditKey = damaged

abbrev pub replay_meaning : ReplayFault → List ℕ
replay_meaning replay_faults.OutOfMemory = []
replay_meaning replay_faults.NoNextFile = damaged
replay_meaning replay_faults.NoLogNumber = damaged
replay_meaning replay_faults.NoLastSequence = damaged
replay_meaning replay_faults.OtherComparator =
    codes "in the manifest that CURRENT names; lsm manifest prints which comparator it has\n"
replay_meaning (replay_faults.DoubleFile number) =
    codes "in the manifest that CURRENT names; lsm repair DIR, or LevelDB without a write\n"

abbrev pub recover_meaning : RecoverFault → List ℕ
recover_meaning (recover_faults.Shelf fault) = shelf_meaning fault
recover_meaning (recover_faults.Log fault) = log_meaning fault
recover_meaning (recover_faults.Edit fault) = edit_meaning fault
recover_meaning (recover_faults.Replay fault) = replay_meaning fault

abbrev pub table_meaning : TableFault → List ℕ
table_meaning table_faults.OutOfMemory = []
table_meaning table_faults.BadRestarts = []
table_meaning (table_faults.BadEntry offset) = []
table_meaning (table_faults.OutOfOrder offset) = []
table_meaning table_faults.ShortFile = []
table_meaning table_faults.BadMagic = []
table_meaning table_faults.BadHandle = []
table_meaning (table_faults.BadChecksum offset) =
    codes "the block is damaged: put a copy back, or RepairDB with paranoid_checks leaves it out\n"
table_meaning (table_faults.Compressed kind) =
    codes "check, list, get and scan read it by --inflate; lsm import DIR NEW copies the folder\n"
table_meaning (table_faults.BadBlockType kind) = []
table_meaning table_faults.BadIndex = []

abbrev pub read_meaning : ReadFault → List ℕ
read_meaning (read_faults.Shelf fault) = []
read_meaning (read_faults.Table fault) = table_meaning fault

abbrev pub check_meaning : CheckFault → List ℕ
check_meaning (check_faults.Read file fault) = read_meaning fault
check_meaning (check_faults.DoubleFile number) = []
check_meaning (check_faults.Overlap level) =
    codes "two tables of the level overlap; lsm repair DIR, or LevelDB's RepairDB, orders them\n"
check_meaning (check_faults.WrongRange number) =
    codes "not the table that the manifest tells of: put that back, lsm repair DIR, or RepairDB\n"
check_meaning (check_faults.AgeOrder user) =
    codes "an older entry lies above a newer one: lsm repair DIR, or a compaction in LevelDB\n"

-- what a fault means, beside the file of a table that it names
abbrev pub meaning_of : DirectoryFault → List ℕ
meaning_of OutOfMemory = []
meaning_of Write = []
meaning_of (Shelf fault) = []
meaning_of (Manifest fault) = recover_meaning fault
meaning_of (Tables fault) = check_meaning fault
meaning_of (Read fault) = read_meaning fault
meaning_of NumbersSpent = []
meaning_of Locked = codes "another program has the folder open\n"
meaning_of (UnflushedLog number) =
    codes "--logs reads it, lsm recover DIR brings it in, lsm import DIR NEW copies DIR with it\n"
meaning_of (TornManifest rest) =
    codes "a cut end may name tables, or hold writes; --accept-rest, or no --strict, lets them go\n"
meaning_of (LaterManifest number) =
    codes "the later manifest may name other tables; no --strict reads what CURRENT names\n"
meaning_of RocksDbFiles =
    codes "what RocksDB has in its logs is not read; no --strict reads the tables\n"
meaning_of Absent = []
