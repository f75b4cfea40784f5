-- Why a copy is refused (this project's rule).
use Rattle.std.specs.Prelude.{ℕ, Option, Some, None}
use Rattle.lsm_import.specs.declared.import_fault.ImportFault.{ImportFault}
use Rattle.lsm_import.specs.declared.import_fault.ImportFault.TheVariants as import
use Rattle.lsm_verify.specs.declared.check_fault.CheckFault.{CheckFault}
use Rattle.lsm_verify.specs.declared.check_fault.CheckFault.TheVariants as check
use Rattle.lsm_cmd_import.specs.declared.copy_fault.CopyFault.{CopyFault}
use Rattle.lsm_cmd_import.specs.declared.copy_fault.CopyFault.TheVariants.{OutOfMemory, Source}
use Rattle.lsm_cmd_import.specs.declared.copy_fault.CopyFault.TheVariants.{Read}
use Rattle.lsm_cmd_import.specs.declared.copy_fault.CopyFault.TheVariants.{Target, IsThere, Copy}
use Rattle.lsm_cmd_import.specs.declared.copy_fault.CopyFault.TheVariants.{Tables, Write}

-- the table of the source that a copy's refusal is about
abbrev pub packed_file : ImportFault → Option ℕ
packed_file import.OutOfMemory = None
packed_file (import.Unread number fault) = Some number
packed_file (import.Packed number fault) = Some number
packed_file (import.WrongRange number) = Some number
packed_file (import.Unwritten fault) = None
packed_file import.TooLarge = None
packed_file import.SequencesSpent = None
packed_file import.NumbersSpent = None
packed_file (import.Replay fault) = None

-- the table that a judgment's refusal is about
abbrev pub judged_file : CheckFault → Option ℕ
judged_file (check.Read number fault) = number
judged_file (check.DoubleFile number) = None
judged_file (check.Overlap level) = None
judged_file (check.WrongRange number) = None
judged_file (check.AgeOrder key) = None

-- the number of the file whose table is refused
abbrev pub file_of : CopyFault → Option ℕ
file_of OutOfMemory = None
file_of (Source fault) = None
file_of (Read fault) = None
file_of (Target fault) = None
file_of IsThere = None
file_of (Copy fault) = packed_file fault
file_of (Tables fault) = judged_file fault
file_of Write = None
