-- Why a run of `recover` is refused (this project's rule).
use Rattle.std.specs.Prelude.{ℕ, Option, None}
use Rattle.lsm_recovery.specs.BringFault.{file_of as file_of_logs}
use Rattle.lsm_cmd_recover.specs.declared.recover_fault.RecoverFault.{RecoverFault}
use Rattle.lsm_cmd_recover.specs.declared.recover_fault.RecoverFault.TheVariants.{Logs, Write}

-- the number of the file whose table is refused
abbrev pub file_of : RecoverFault → Option ℕ
file_of (Logs fault) = file_of_logs fault
file_of Write = None
