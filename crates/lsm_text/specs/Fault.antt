-- The faults of the parts as faults of the program.
use Rattle.lsm_table.specs.declared.table_fault.TableFault.{TableFault}
use Rattle.lsm_table.specs.declared.table_fault.TableFault.TheVariants.{OutOfMemory as NoMemoryForTable}
use Rattle.lsm_block.specs.declared.build_fault.BuildFault.{BuildFault}
use Rattle.lsm_block.specs.declared.build_fault.BuildFault.TheVariants.{OutOfMemory as NoMemoryForBlock, TooLarge as TooLargeBlock}
use Rattle.lsm_manifest.specs.declared.log_fault.LogFault.{LogFault}
use Rattle.lsm_manifest.specs.declared.log_fault.LogFault.TheVariants.{OutOfMemory as NoMemoryForLog}
use Rattle.lsm_manifest.specs.declared.edit_fault.EditFault.{EditFault}
use Rattle.lsm_manifest.specs.declared.edit_fault.EditFault.TheVariants.{OutOfMemory as NoMemoryForEdit}
use Rattle.lsm_text.specs.declared.entry_reader.LineFault.{LineFault}
use Rattle.lsm_text.specs.declared.entry_reader.LineFault.TheVariants.{BadLine as BadLineOfList, OutOfMemory as NoMemoryForList}
use Rattle.lsm_text.specs.declared.fault.Fault.{Fault}
use Rattle.lsm_text.specs.declared.fault.Fault.TheVariants.{Read, BadLine, OutOfMemory, Table}
use Rattle.lsm_text.specs.declared.fault.Fault.TheVariants.{TooLarge, Log, Edit}
use Rattle.lsm_text.specs.declared.streams.InputFault.{InputFault}
use Rattle.lsm_text.specs.declared.streams.InputFault.TheVariants.{Read as ReadOfInput, TooLong}
use Rattle.lsm_text.specs.declared.streams.InputFault.TheVariants.{OutOfMemory as NoMemoryForInput}

abbrev pub of_input : InputFault → Fault
of_input ReadOfInput = Read
of_input TooLong = Read
of_input NoMemoryForInput = OutOfMemory

abbrev pub of_line : LineFault → Fault
of_line (BadLineOfList line) = BadLine line
of_line NoMemoryForList = OutOfMemory

abbrev pub of_table : TableFault → Fault
of_table NoMemoryForTable = OutOfMemory
of_table fault = Table fault

abbrev pub of_build : BuildFault → Fault
of_build NoMemoryForBlock = OutOfMemory
of_build TooLargeBlock = TooLarge

abbrev pub of_log : LogFault → Fault
of_log NoMemoryForLog = OutOfMemory
of_log fault = Log fault

abbrev pub of_edit : EditFault → Fault
of_edit NoMemoryForEdit = OutOfMemory
of_edit fault = Edit fault
