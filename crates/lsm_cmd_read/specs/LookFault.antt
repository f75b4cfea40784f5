-- Why a command that only reads is refused (this project's rule).
use Rattle.std.specs.Prelude.{ℕ, Option}
use Rattle.lsm_directory.specs.DirectoryFault as directory
use Rattle.lsm_preview.specs.PreviewFault as preview
use Rattle.lsm_cmd_read.specs.declared.look_fault.LookFault.{LookFault}
use Rattle.lsm_cmd_read.specs.declared.look_fault.LookFault.TheVariants.{Directory, Unseen}

-- the number of the file whose table is refused
abbrev pub file_of : LookFault → Option ℕ
file_of (Directory fault) = directory.file_of fault
file_of (Unseen fault) = preview.file_of fault
