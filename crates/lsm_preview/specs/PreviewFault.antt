-- Why a database is not seen (this project's rule).
use Rattle.std.specs.Prelude.{ℕ, Option, Some, None}
use Rattle.lsm_import.specs.declared.import_fault.ImportFault.{ImportFault}
use Rattle.lsm_import.specs.declared.import_fault.ImportFault.TheVariants as import
use Rattle.lsm_preview.specs.declared.preview_fault.PreviewFault.{PreviewFault}
use Rattle.lsm_preview.specs.declared.preview_fault.PreviewFault.TheVariants.{OutOfMemory, Unread}
use Rattle.lsm_preview.specs.declared.preview_fault.PreviewFault.TheVariants.{Unlisted, Unmade}

-- the table that a refusal of a plain one is about
abbrev pub table_of : ImportFault → Option ℕ
table_of import.OutOfMemory = None
table_of (import.Unread number fault) = Some number
table_of (import.Packed number fault) = Some number
table_of (import.WrongRange number) = Some number
table_of (import.Unwritten fault) = None
table_of import.TooLarge = None
table_of import.SequencesSpent = None
table_of import.NumbersSpent = None
table_of (import.Replay fault) = None

-- the number of the file whose table is refused
abbrev pub file_of : PreviewFault → Option ℕ
file_of OutOfMemory = None
file_of (Unread fault) = None
file_of (Unlisted fault) = None
file_of (Unmade fault) = table_of fault
