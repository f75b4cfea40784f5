-- Why the writes of logs do not come in (this project's rule).
use Rattle.std.specs.Prelude.{ℕ, Option, None}
use Rattle.lsm_directory.specs.DirectoryFault.{file_in}
use Rattle.lsm_recovery.specs.declared.bring_fault.BringFault.{BringFault}
use Rattle.lsm_recovery.specs.declared.bring_fault.BringFault.TheVariants.{OutOfMemory, Folder}
use Rattle.lsm_recovery.specs.declared.bring_fault.BringFault.TheVariants.{Read, Bring, Tables}

-- the number of the file whose table is refused
abbrev pub file_of : BringFault → Option ℕ
file_of OutOfMemory = None
file_of (Folder fault) = None
file_of (Read fault) = None
file_of (Bring fault) = None
file_of (Tables fault) = file_in fault
