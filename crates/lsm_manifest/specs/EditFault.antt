-- The numbers and names of an edit's refusals in docs/FORMATS.md (this project's rule).
use Rattle.std.specs.Prelude.{ℕ, List, codes}
use Rattle.lsm_manifest.specs.declared.edit_fault.EditFault.{EditFault}
use Rattle.lsm_manifest.specs.declared.edit_fault.EditFault.TheVariants.{OutOfMemory, UnknownTag}
use Rattle.lsm_manifest.specs.declared.edit_fault.EditFault.TheVariants.{BadLevel, EditCut}
use Rattle.lsm_manifest.specs.declared.edit_fault.EditFault.TheVariants.{BadEditKey}

abbrev pub number_of : EditFault → ℕ
number_of OutOfMemory = 1
number_of (UnknownTag tag) = 22
number_of (BadLevel level) = 23
number_of EditCut = 24
number_of BadEditKey = 25

abbrev pub name_of : EditFault → List ℕ
name_of OutOfMemory = codes "OutOfMemory"
name_of (UnknownTag tag) = codes "UnknownTag"
name_of (BadLevel level) = codes "BadLevel"
name_of EditCut = codes "EditCut"
name_of BadEditKey = codes "BadEditKey"
