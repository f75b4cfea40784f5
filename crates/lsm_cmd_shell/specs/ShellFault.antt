-- What is printed of a run of `shell` that is a fault: this project's rule.
use Rattle.std.specs.Prelude.{ℕ, List, codes, Option, None, Some}
use Rattle.lsm_opening.specs.CompactFault as compact
use Rattle.lsm_cmd_shell.specs.declared.shell_fault.ShellFault.{ShellFault}
use Rattle.lsm_cmd_shell.specs.declared.shell_fault.ShellFault.TheVariants.{Run, LineFailed}
use Rattle.lsm_cmd_shell.specs.declared.shell_fault.ShellFault.TheVariants.{BatchOpen}

abbrev pub fault_text : ShellFault → Option (List ℕ)
fault_text (Run fault) = compact.fault_text fault
fault_text LineFailed = Some (codes "failed line")
fault_text BatchOpen = Some (codes "open batch")

-- the number of the file whose table is refused
abbrev pub table_file_of : ShellFault → Option ℕ
table_file_of (Run fault) = compact.table_file_of fault
table_file_of LineFailed = None
table_file_of BatchOpen = None
