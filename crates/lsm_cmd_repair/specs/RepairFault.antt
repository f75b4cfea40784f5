-- Why a run of `repair` is refused (this project's rule).
use Rattle.std.specs.Prelude.{ℕ, Option, None, Some}
use Rattle.lsm_repair.specs.declared.mend_fault.MendFault.{MendFault}
use Rattle.lsm_repair.specs.declared.mend_fault.MendFault.TheVariants.{OutOfMemory, Unlisted}
use Rattle.lsm_repair.specs.declared.mend_fault.MendFault.TheVariants.{UnreadManifest, Unread}
use Rattle.lsm_repair.specs.declared.mend_fault.MendFault.TheVariants.{OtherComparator}
use Rattle.lsm_repair.specs.declared.mend_fault.MendFault.TheVariants.{NumbersSpent, NothingWhole}
use Rattle.lsm_repair.specs.declared.mend_fault.MendFault.TheVariants.{TwoValues, TooLarge}
use Rattle.lsm_repair.specs.declared.mend_fault.MendFault.TheVariants.{Unwritten}
use Rattle.lsm_cmd_repair.specs.declared.repair_fault.RepairFault.{RepairFault}
use Rattle.lsm_cmd_repair.specs.declared.repair_fault.RepairFault.TheVariants.{Folder, Mend}
use Rattle.lsm_cmd_repair.specs.declared.repair_fault.RepairFault.TheVariants.{Write}

-- the number of the table that was not read
abbrev pub file_in : MendFault → Option ℕ
file_in (Unread number fault) = Some number
file_in OutOfMemory = None
file_in (UnreadManifest fault) = None
file_in OtherComparator = None
file_in (Unlisted fault) = None
file_in NumbersSpent = None
file_in NothingWhole = None
file_in (TwoValues one other) = None
file_in TooLarge = None
file_in (Unwritten fault) = None

-- the number of the file whose table is refused
abbrev pub file_of : RepairFault → Option ℕ
file_of (Folder fault) = None
file_of (Mend fault) = file_in fault
file_of Write = None
