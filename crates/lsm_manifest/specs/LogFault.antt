-- The numbers and names of a log's refusals in docs/FORMATS.md (this project's rule).
use Rattle.std.specs.Prelude.{ℕ, List, codes}
use Rattle.lsm_manifest.specs.declared.log_fault.LogFault.{LogFault}
use Rattle.lsm_manifest.specs.declared.log_fault.LogFault.TheVariants.{OutOfMemory, LogChecksum}
use Rattle.lsm_manifest.specs.declared.log_fault.LogFault.TheVariants.{LogOrder, LogType}

abbrev pub number_of : LogFault → ℕ
number_of OutOfMemory = 1
number_of (LogChecksum offset) = 19
number_of (LogOrder offset) = 20
number_of (LogType offset) = 21

abbrev pub name_of : LogFault → List ℕ
name_of OutOfMemory = codes "OutOfMemory"
name_of (LogChecksum offset) = codes "LogChecksum"
name_of (LogOrder offset) = codes "LogOrder"
name_of (LogType offset) = codes "LogType"
