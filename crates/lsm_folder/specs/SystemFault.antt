-- Why the system refused a call, as a folder takes it (this project's rule).
use Rattle.std.specs.IoError.{error_kind}
use Rattle.std.specs.declared.io.ErrorKind.{ErrorKind}
use Rattle.std.specs.declared.io.ErrorKind.TheVariants.{Other}
use Rattle.lsm_folder.specs.declared.system_fault.SystemFault.{SystemFault}
use Rattle.lsm_folder.specs.declared.system_fault.SystemFault.TheVariants.{Unacted, Acted}

-- why the call did not act. Where it may have acted, nothing that was answered says more than that
-- it failed
abbrev pub fault_kind : SystemFault → ErrorKind
fault_kind (Unacted error) = error_kind error
fault_kind (Acted error) = Other
