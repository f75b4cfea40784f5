-- Why a command that writes a directory is refused, and what it prints of that: this project's
-- rule.
use Rattle.std.specs.Prelude.{ℕ, List, ◌++◌, codes, decimal, Option, None, Some}
use Rattle.lsm_shelf.specs.declared.shelf_fault.ShelfFault.{ShelfFault}
use Rattle.lsm_journal.specs.declared.open_fault.OpenFault.{OpenFault}
use Rattle.lsm_journal.specs.declared.recover_fault.RecoverFault.{RecoverFault}
use Rattle.lsm_refusals.specs.RefusalText.{state_text}
use Rattle.lsm_text.specs.FaultText.{refusal_text}
use Rattle.lsm_text.specs.declared.streams.InputFault.{InputFault}
use Rattle.lsm_text.specs.declared.streams.InputFault.TheVariants as input_faults
use Rattle.lsm_directory.specs.DirectoryFault as directory
use Rattle.lsm_directory.specs.declared.faults.directory_fault.DirectoryFault.TheVariants as directory_faults
use Rattle.lsm_opening.specs.declared.faults.writer_fault.WriterFault.{WriterFault}
use Rattle.lsm_opening.specs.declared.faults.writer_fault.WriterFault.TheVariants.{OutOfMemory}
use Rattle.lsm_opening.specs.declared.faults.writer_fault.WriterFault.TheVariants.{Read, Write}
use Rattle.lsm_opening.specs.declared.faults.writer_fault.WriterFault.TheVariants.{BadLine}
use Rattle.lsm_opening.specs.declared.faults.writer_fault.WriterFault.TheVariants.{Directory}
use Rattle.lsm_opening.specs.declared.faults.writer_fault.WriterFault.TheVariants.{LostCurrent}
use Rattle.lsm_opening.specs.declared.faults.writer_fault.WriterFault.TheVariants.{UnflushedLog}
use Rattle.lsm_opening.specs.declared.faults.writer_fault.WriterFault.TheVariants.{State}

-- ---- names of refusals

-- a refusal of an input
abbrev pub of_input : InputFault → WriterFault
of_input input_faults.Read = Read
of_input input_faults.TooLong = Read
of_input input_faults.OutOfMemory = OutOfMemory

abbrev pub of_shelf : ShelfFault → WriterFault
of_shelf fault = Directory (directory_faults.Shelf fault)

abbrev pub of_manifest : RecoverFault → WriterFault
of_manifest fault = Directory (directory_faults.Manifest fault)

abbrev pub of_open : OpenFault → WriterFault
of_open fault = Directory (directory.of_open fault)

-- ---- what is printed

abbrev pub fault_text : WriterFault → Option (List ℕ)
fault_text OutOfMemory = Some (refusal_text 1 (codes "OutOfMemory") None)
fault_text Read = Some (codes "read fault")
fault_text Write = Some (codes "write fault")
fault_text (BadLine line fault) = Some (codes "bad line " ++ decimal line)
fault_text (Directory fault) = directory.fault_text fault
fault_text (LostCurrent highest) = Some (refusal_text 10 (codes "Missing") None)
fault_text (UnflushedLog number) = Some (refusal_text 51 (codes "UnflushedLog") (Some number))
fault_text (State fault) = Some (state_text fault)

-- the number of the file whose table is refused
abbrev pub table_file_of : WriterFault → Option ℕ
table_file_of OutOfMemory = None
table_file_of Read = None
table_file_of Write = None
table_file_of (BadLine line fault) = None
table_file_of (Directory fault) = directory.file_of fault
table_file_of (LostCurrent highest) = None
table_file_of (UnflushedLog number) = None
table_file_of (State fault) = None
