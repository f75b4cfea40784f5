-- The numbers and names of a replay's refusals in docs/FORMATS.md (this project's rule).
use Rattle.std.specs.Prelude.{ℕ, List, codes}
use Rattle.lsm_manifest.specs.declared.replay_fault.ReplayFault.{ReplayFault}
use Rattle.lsm_manifest.specs.declared.replay_fault.ReplayFault.TheVariants.{OutOfMemory}
use Rattle.lsm_manifest.specs.declared.replay_fault.ReplayFault.TheVariants.{NoNextFile}
use Rattle.lsm_manifest.specs.declared.replay_fault.ReplayFault.TheVariants.{NoLogNumber}
use Rattle.lsm_manifest.specs.declared.replay_fault.ReplayFault.TheVariants.{NoLastSequence}
use Rattle.lsm_manifest.specs.declared.replay_fault.ReplayFault.TheVariants.{OtherComparator}
use Rattle.lsm_manifest.specs.declared.replay_fault.ReplayFault.TheVariants.{DoubleFile}

abbrev pub number_of : ReplayFault → ℕ
number_of OutOfMemory = 1
number_of NoNextFile = 26
number_of NoLogNumber = 27
number_of NoLastSequence = 28
number_of OtherComparator = 29
number_of (DoubleFile number) = 30

abbrev pub name_of : ReplayFault → List ℕ
name_of OutOfMemory = codes "OutOfMemory"
name_of NoNextFile = codes "NoNextFile"
name_of NoLogNumber = codes "NoLogNumber"
name_of NoLastSequence = codes "NoLastSequence"
name_of OtherComparator = codes "OtherComparator"
name_of (DoubleFile number) = codes "DoubleFile"
