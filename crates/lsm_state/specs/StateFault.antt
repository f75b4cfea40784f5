-- The refusals of a state: their numbers and names (this project's rule).
use Rattle.std.specs.Prelude.{ℕ, List, codes}
use Rattle.lsm_shelf.specs.ShelfFault as shelf
use Rattle.lsm_table.specs.ReadFault as read
use Rattle.lsm_state.specs.declared.state_fault.StateFault.{StateFault}
use Rattle.lsm_state.specs.declared.state_fault.StateFault.TheVariants.{OutOfMemory, Shelf, Read}
use Rattle.lsm_state.specs.declared.state_fault.StateFault.TheVariants.{BadLevel, EmptyBatch}
use Rattle.lsm_state.specs.declared.state_fault.StateFault.TheVariants.{KeyOrder, TooLarge}
use Rattle.lsm_state.specs.declared.state_fault.StateFault.TheVariants.{LevelZeroFull}
use Rattle.lsm_state.specs.declared.state_fault.StateFault.TheVariants.{SequencesSpent, Halted}
use Rattle.lsm_state.specs.declared.state_fault.StateFault.TheVariants.{UnknownSnapshot, Conflict}
use Rattle.lsm_state.specs.declared.state_fault.StateFault.TheVariants.{UnknownTicket, NumbersSpent}
use Rattle.lsm_state.specs.declared.state_fault.StateFault.TheVariants.{Stale, SlotsHeld}
use Rattle.lsm_state.specs.declared.state_fault.StateFault.TheVariants.{VersionsSpent, PinsSpent}

abbrev pub number_of : StateFault → ℕ
number_of OutOfMemory = 1
number_of (Shelf fault) = shelf.number_of fault
number_of (Read fault) = read.number_of fault
number_of (BadLevel _) = 23
number_of EmptyBatch = 37
number_of (KeyOrder _) = 38
number_of TooLarge = 39
number_of LevelZeroFull = 40
number_of SequencesSpent = 41
number_of Halted = 42
number_of (UnknownSnapshot _) = 43
number_of (Conflict _) = 44
number_of (UnknownTicket _) = 45
number_of NumbersSpent = 46
number_of Stale = 47
number_of SlotsHeld = 48
number_of VersionsSpent = 49
number_of PinsSpent = 50

abbrev pub name_of : StateFault → List ℕ
name_of OutOfMemory = codes "OutOfMemory"
name_of (Shelf fault) = shelf.name_of fault
name_of (Read fault) = read.name_of fault
name_of (BadLevel _) = codes "BadLevel"
name_of EmptyBatch = codes "EmptyBatch"
name_of (KeyOrder _) = codes "KeyOrder"
name_of TooLarge = codes "TooLarge"
name_of LevelZeroFull = codes "LevelZeroFull"
name_of SequencesSpent = codes "SequencesSpent"
name_of Halted = codes "Halted"
name_of (UnknownSnapshot _) = codes "UnknownSnapshot"
name_of (Conflict _) = codes "Conflict"
name_of (UnknownTicket _) = codes "UnknownTicket"
name_of NumbersSpent = codes "NumbersSpent"
name_of Stale = codes "Stale"
name_of SlotsHeld = codes "SlotsHeld"
name_of VersionsSpent = codes "VersionsSpent"
name_of PinsSpent = codes "PinsSpent"
