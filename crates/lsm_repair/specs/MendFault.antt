-- Why a database is not repaired: the numbers and names in docs/FORMATS.md (this project's rule).
use Rattle.std.specs.Prelude.{ℕ, List, codes}
use Rattle.lsm_shelf.specs.ShelfFault as shelf
use Rattle.lsm_repair.specs.declared.mend_fault.MendFault.{MendFault}
use Rattle.lsm_repair.specs.declared.mend_fault.MendFault.TheVariants.{OutOfMemory, Unlisted}
use Rattle.lsm_repair.specs.declared.mend_fault.MendFault.TheVariants.{UnreadManifest, Unread}
use Rattle.lsm_repair.specs.declared.mend_fault.MendFault.TheVariants.{OtherComparator}
use Rattle.lsm_repair.specs.declared.mend_fault.MendFault.TheVariants.{NumbersSpent, NothingWhole}
use Rattle.lsm_repair.specs.declared.mend_fault.MendFault.TheVariants.{TwoValues, TooLarge}
use Rattle.lsm_repair.specs.declared.mend_fault.MendFault.TheVariants.{Unwritten}

abbrev pub number_of : MendFault → ℕ
number_of OutOfMemory = 1
number_of (UnreadManifest fault) = shelf.number_of fault
number_of OtherComparator = 29
number_of (Unlisted fault) = shelf.number_of fault
number_of NumbersSpent = 46
number_of (Unread number fault) = shelf.number_of fault
number_of NothingWhole = 64
number_of (TwoValues one other) = 65
number_of TooLarge = 39
number_of (Unwritten fault) = shelf.number_of fault

abbrev pub name_of : MendFault → List ℕ
name_of OutOfMemory = codes "OutOfMemory"
name_of (UnreadManifest fault) = shelf.name_of fault
name_of OtherComparator = codes "OtherComparator"
name_of (Unlisted fault) = shelf.name_of fault
name_of NumbersSpent = codes "NumbersSpent"
name_of (Unread number fault) = shelf.name_of fault
name_of NothingWhole = codes "NothingWhole"
name_of (TwoValues one other) = codes "TwoValues"
name_of TooLarge = codes "TooLarge"
name_of (Unwritten fault) = shelf.name_of fault
