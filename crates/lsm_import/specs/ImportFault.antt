-- The refusals of a copy: their numbers and names in docs/FORMATS.md (this project's rule).
use Rattle.std.specs.Prelude.{ℕ, List, codes}
use Rattle.lsm_inflate.specs.Fault as packed
use Rattle.lsm_manifest.specs.ReplayFault as replay
use Rattle.lsm_shelf.specs.ShelfFault as shelf
use Rattle.lsm_import.specs.declared.import_fault.ImportFault.{ImportFault}
use Rattle.lsm_import.specs.declared.import_fault.ImportFault.TheVariants.{OutOfMemory, Unread}
use Rattle.lsm_import.specs.declared.import_fault.ImportFault.TheVariants.{Packed, WrongRange}
use Rattle.lsm_import.specs.declared.import_fault.ImportFault.TheVariants.{Unwritten, TooLarge}
use Rattle.lsm_import.specs.declared.import_fault.ImportFault.TheVariants.{SequencesSpent}
use Rattle.lsm_import.specs.declared.import_fault.ImportFault.TheVariants.{NumbersSpent}
use Rattle.lsm_import.specs.declared.import_fault.ImportFault.TheVariants.{Replay}

abbrev pub number_of : ImportFault → ℕ
number_of OutOfMemory = 1
number_of (Unread number fault) = shelf.number_of fault
number_of (Packed number fault) = packed.number_of fault
number_of (WrongRange number) = 32
number_of (Unwritten fault) = shelf.number_of fault
number_of TooLarge = 39
number_of SequencesSpent = 41
number_of NumbersSpent = 46
number_of (Replay fault) = replay.number_of fault

abbrev pub name_of : ImportFault → List ℕ
name_of OutOfMemory = codes "OutOfMemory"
name_of (Unread number fault) = shelf.name_of fault
name_of (Packed number fault) = packed.name_of fault
name_of (WrongRange number) = codes "WrongRange"
name_of (Unwritten fault) = shelf.name_of fault
name_of TooLarge = codes "TooLarge"
name_of SequencesSpent = codes "SequencesSpent"
name_of NumbersSpent = codes "NumbersSpent"
name_of (Replay fault) = replay.name_of fault
