-- What a fault is called on standard error: this project's rule. Of a refusal its number and name,
-- and then its field.
use Rattle.std.specs.Prelude.{ℕ, List, [], ◌∷◌, ◌++◌, codes, decimal, Option, Some, None}
use Rattle.lsm_block.specs.declared.build_fault.BuildFault.TheVariants.{TooLarge as TooLargeBlock}
use Rattle.lsm_block.specs.BuildFault as block
use Rattle.lsm_shelf.specs.declared.shelf_fault.ShelfFault.{ShelfFault}
use Rattle.lsm_shelf.specs.declared.shelf_fault.ShelfFault.TheVariants as shelf_faults
use Rattle.lsm_table.specs.declared.read_fault.ReadFault.{ReadFault}
use Rattle.lsm_table.specs.declared.read_fault.ReadFault.TheVariants as read_faults
use Rattle.lsm_table.specs.declared.table_fault.TableFault.{TableFault}
use Rattle.lsm_table.specs.declared.table_fault.TableFault.TheVariants as table_faults
use Rattle.lsm_table.specs.Fault as table
use Rattle.lsm_manifest.specs.declared.log_fault.LogFault.{LogFault}
use Rattle.lsm_manifest.specs.declared.log_fault.LogFault.TheVariants as log_faults
use Rattle.lsm_manifest.specs.LogFault as log
use Rattle.lsm_manifest.specs.declared.edit_fault.EditFault.{EditFault}
use Rattle.lsm_manifest.specs.declared.edit_fault.EditFault.TheVariants as edit_faults
use Rattle.lsm_manifest.specs.EditFault as edit
use Rattle.lsm_manifest.specs.declared.replay_fault.ReplayFault.{ReplayFault}
use Rattle.lsm_manifest.specs.declared.replay_fault.ReplayFault.TheVariants as replay_faults
use Rattle.lsm_text.specs.declared.fault.Fault.{Fault}
use Rattle.lsm_text.specs.declared.fault.Fault.TheVariants.{Read, Write, BadLine, OutOfMemory}
use Rattle.lsm_text.specs.declared.fault.Fault.TheVariants.{Table, Log, Edit, TooLarge}

-- a space and the field, where there is one
abbrev pub field_text : Option ℕ → List ℕ
field_text None = []
field_text (Some field) = 32 ∷ decimal field

abbrev pub refusal_text : ℕ → List ℕ → Option ℕ → List ℕ
refusal_text number name field =
    codes "refused " ++ (decimal number ++ (32 ∷ (name ++ field_text field)))

-- the offset or the type that a refusal of a table names
abbrev pub table_field : TableFault → Option ℕ
table_field table_faults.OutOfMemory = None
table_field table_faults.BadRestarts = None
table_field (table_faults.BadEntry offset) = Some offset
table_field (table_faults.OutOfOrder offset) = Some offset
table_field table_faults.ShortFile = None
table_field table_faults.BadMagic = None
table_field table_faults.BadHandle = None
table_field (table_faults.BadChecksum offset) = Some offset
table_field (table_faults.Compressed kind) = Some kind
table_field (table_faults.BadBlockType kind) = Some kind
table_field table_faults.BadIndex = None

-- the number that a refusal of a shelf names
abbrev pub shelf_field : ShelfFault → Option ℕ
shelf_field shelf_faults.OutOfMemory = None
shelf_field shelf_faults.Device = None
shelf_field shelf_faults.Missing = None
shelf_field (shelf_faults.Taken number) = Some number

-- what a refusal of a read names
abbrev pub read_field : ReadFault → Option ℕ
read_field (read_faults.Shelf fault) = shelf_field fault
read_field (read_faults.Table fault) = table_field fault

-- the offset that a refusal of a log names
abbrev pub log_field : LogFault → Option ℕ
log_field log_faults.OutOfMemory = None
log_field (log_faults.LogChecksum offset) = Some offset
log_field (log_faults.LogOrder offset) = Some offset
log_field (log_faults.LogType offset) = Some offset

-- the tag or the level that a refusal of an edit names
abbrev pub edit_field : EditFault → Option ℕ
edit_field edit_faults.OutOfMemory = None
edit_field (edit_faults.UnknownTag tag) = Some tag
edit_field (edit_faults.BadLevel level) = Some level
edit_field edit_faults.EditCut = None
edit_field edit_faults.BadEditKey = None

-- the number that a refusal of a row of edits names
abbrev pub replay_field : ReplayFault → Option ℕ
replay_field replay_faults.OutOfMemory = None
replay_field replay_faults.NoNextFile = None
replay_field replay_faults.NoLogNumber = None
replay_field replay_faults.NoLastSequence = None
replay_field replay_faults.OtherComparator = None
replay_field (replay_faults.DoubleFile number) = Some number

abbrev pub fault_text : Fault → List ℕ
fault_text Read = codes "read fault"
fault_text Write = codes "write fault"
fault_text (BadLine line) = codes "bad line " ++ decimal line
fault_text OutOfMemory = refusal_text 1 (codes "OutOfMemory") None
fault_text TooLarge = refusal_text (block.number_of TooLargeBlock) (block.name_of TooLargeBlock)
    None
fault_text (Table fault) = refusal_text (table.number_of fault) (table.name_of fault)
    (table_field fault)
fault_text (Log fault) = refusal_text (log.number_of fault) (log.name_of fault) (log_field fault)
fault_text (Edit fault) = refusal_text (edit.number_of fault) (edit.name_of fault)
    (edit_field fault)

-- a line of its own
abbrev pub fault_line : Fault → List ℕ
fault_line fault = fault_text fault ++ (10 ∷ [])
