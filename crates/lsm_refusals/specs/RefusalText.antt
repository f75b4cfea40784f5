-- What is printed of the refusals of a database and of a merge: this project's rule.
use Rattle.std.specs.Prelude.{ℕ, List, ◌++◌, Option, None, Some}
use Rattle.lsm_text.specs.FaultText.{field_text, read_field, refusal_text, shelf_field}
use Rattle.lsm_merge.specs.MergeFault as merge
use Rattle.lsm_merge.specs.declared.merge_fault.MergeFault.{MergeFault}
use Rattle.lsm_merge.specs.declared.merge_fault.MergeFault.TheVariants.{OutOfMemory, ReadFailed}
use Rattle.lsm_merge.specs.declared.merge_fault.MergeFault.TheVariants.{PutFailed, UnknownTicket}
use Rattle.lsm_merge.specs.declared.merge_fault.MergeFault.TheVariants.{NumbersSpent}
use Rattle.lsm_state.specs.StateFault as state
use Rattle.lsm_state.specs.declared.state_fault.StateFault.{StateFault}
use Rattle.lsm_state.specs.declared.state_fault.StateFault.TheVariants as state_faults

-- ---- of a database

-- the number that a refusal of a database names
abbrev pub state_field : StateFault → Option ℕ
state_field state_faults.OutOfMemory = None
state_field (state_faults.Shelf fault) = shelf_field fault
state_field (state_faults.Read fault) = read_field fault
state_field (state_faults.BadLevel level) = Some level
state_field state_faults.EmptyBatch = None
state_field (state_faults.KeyOrder place) = Some place
state_field state_faults.TooLarge = None
state_field state_faults.LevelZeroFull = None
state_field state_faults.SequencesSpent = None
state_field state_faults.Halted = None
state_field (state_faults.UnknownSnapshot id) = Some id
state_field (state_faults.Conflict ticket) = Some ticket
state_field (state_faults.UnknownTicket ticket) = Some ticket
state_field state_faults.NumbersSpent = None
state_field state_faults.Stale = None
state_field state_faults.SlotsHeld = None
state_field state_faults.VersionsSpent = None
state_field state_faults.PinsSpent = None

abbrev pub state_text : StateFault → List ℕ
state_text fault = refusal_text (state.number_of fault) (state.name_of fault) (state_field fault)

-- ---- of a merge

-- the number of the table or of the ticket that it names
abbrev pub merge_field : MergeFault → Option ℕ
merge_field OutOfMemory = None
merge_field (ReadFailed number fault) = Some number
merge_field (PutFailed number fault) = Some number
merge_field (UnknownTicket ticket) = Some ticket
merge_field NumbersSpent = None

-- the number of the refusal that stands behind it
abbrev pub merge_cause : MergeFault → Option ℕ
merge_cause OutOfMemory = None
merge_cause (ReadFailed number fault) = Some (merge.input_number fault)
merge_cause (PutFailed number fault) = Some (merge.output_number fault)
merge_cause (UnknownTicket ticket) = None
merge_cause NumbersSpent = None

-- its number and name, what it names, and what stands behind it
abbrev pub merge_text : MergeFault → List ℕ
merge_text fault = refusal_text (merge.number_of fault) (merge.name_of fault) (merge_field fault)
    ++ field_text (merge_cause fault)
