-- Why no database is served: the number and the name by which that is answered, those of
-- docs/FORMATS.md, or above 200 those of docs/PROTOCOL.md (this project's rule).
use Rattle.std.specs.Prelude.{ℕ, List, codes}
use Rattle.lsm_import.specs.ImportFault as import
use Rattle.lsm_journal.specs.RecoverFault as recover
use Rattle.lsm_shelf.specs.ShelfFault as shelf
use Rattle.lsm_state.specs.StateFault as state
use Rattle.lsm_table.specs.ReadFault as read
use Rattle.lsm_verify.specs.CheckFault as check
use Rattle.lsm_wal.specs.WriteLogFault as log
use Rattle.lsm_directory.specs.declared.faults.directory_fault.DirectoryFault.{DirectoryFault}
use Rattle.lsm_directory.specs.declared.faults.directory_fault.DirectoryFault.TheVariants as directory
use Rattle.lsm_log_files.specs.declared.source_fault.SourceFault.{SourceFault}
use Rattle.lsm_log_files.specs.declared.source_fault.SourceFault.TheVariants as source
use Rattle.lsm_opening.specs.declared.faults.writer_fault.WriterFault.{WriterFault}
use Rattle.lsm_opening.specs.declared.faults.writer_fault.WriterFault.TheVariants as writer
use Rattle.lsm_recovery.specs.declared.bring_fault.BringFault.{BringFault}
use Rattle.lsm_recovery.specs.declared.bring_fault.BringFault.TheVariants as bring
use Rattle.lsm_channels.specs.declared.opening_fault.OpeningFault.{OpeningFault}
use Rattle.lsm_channels.specs.declared.opening_fault.OpeningFault.TheVariants.{BadOpening, IsThere}
use Rattle.lsm_channels.specs.declared.opening_fault.OpeningFault.TheVariants.{NoDatabase, Folder}
use Rattle.lsm_channels.specs.declared.opening_fault.OpeningFault.TheVariants.{Logs}

-- ---- numbers

-- Nothing is written to a stream here, and no key is asked for.
abbrev pub number_of_directory : DirectoryFault → ℕ
number_of_directory directory.OutOfMemory = 1
number_of_directory directory.Write = 1
number_of_directory (directory.Shelf fault) = shelf.number_of fault
number_of_directory (directory.Manifest fault) = recover.number_of fault
number_of_directory (directory.Tables fault) = check.number_of fault
number_of_directory (directory.Read fault) = read.number_of fault
number_of_directory directory.NumbersSpent = 46
number_of_directory directory.Locked = 52
number_of_directory (directory.UnflushedLog number) = 51
number_of_directory (directory.TornManifest rest) = 61
number_of_directory (directory.LaterManifest number) = 62
number_of_directory directory.RocksDbFiles = 63
number_of_directory directory.Absent = 1

-- No file of writes is read here.
abbrev pub number_of_folder : WriterFault → ℕ
number_of_folder writer.OutOfMemory = 1
number_of_folder writer.Read = 1
number_of_folder writer.Write = 1
number_of_folder (writer.BadLine line fault) = 1
number_of_folder (writer.Directory fault) = number_of_directory fault
number_of_folder (writer.LostCurrent highest) = 10
number_of_folder (writer.UnflushedLog number) = 51
number_of_folder (writer.State fault) = state.number_of fault

abbrev pub number_of_source : SourceFault → ℕ
number_of_source source.OutOfMemory = 1
number_of_source (source.Manifest fault) = recover.number_of fault
number_of_source (source.UnreadLog number fault) = shelf.number_of fault
number_of_source (source.BadLog number fault) = log.number_of fault

abbrev pub number_of_logs : BringFault → ℕ
number_of_logs bring.OutOfMemory = 1
number_of_logs (bring.Folder fault) = number_of_folder fault
number_of_logs (bring.Read fault) = number_of_source fault
number_of_logs (bring.Bring fault) = import.number_of fault
number_of_logs (bring.Tables fault) = check.number_of fault

abbrev pub number_of : OpeningFault → ℕ
number_of BadOpening = 201
number_of NoDatabase = 202
number_of IsThere = 203
number_of (Folder fault) = number_of_folder fault
number_of (Logs fault) = number_of_logs fault

-- ---- names

abbrev pub name_of_directory : DirectoryFault → List ℕ
name_of_directory directory.OutOfMemory = codes "OutOfMemory"
name_of_directory directory.Write = codes "OutOfMemory"
name_of_directory (directory.Shelf fault) = shelf.name_of fault
name_of_directory (directory.Manifest fault) = recover.name_of fault
name_of_directory (directory.Tables fault) = check.name_of fault
name_of_directory (directory.Read fault) = read.name_of fault
name_of_directory directory.NumbersSpent = codes "NumbersSpent"
name_of_directory directory.Locked = codes "Locked"
name_of_directory (directory.UnflushedLog number) = codes "UnflushedLog"
name_of_directory (directory.TornManifest rest) = codes "TornManifest"
name_of_directory (directory.LaterManifest number) = codes "LaterManifest"
name_of_directory directory.RocksDbFiles = codes "RocksDbFiles"
name_of_directory directory.Absent = codes "OutOfMemory"

abbrev pub name_of_folder : WriterFault → List ℕ
name_of_folder writer.OutOfMemory = codes "OutOfMemory"
name_of_folder writer.Read = codes "OutOfMemory"
name_of_folder writer.Write = codes "OutOfMemory"
name_of_folder (writer.BadLine line fault) = codes "OutOfMemory"
name_of_folder (writer.Directory fault) = name_of_directory fault
name_of_folder (writer.LostCurrent highest) = codes "Missing"
name_of_folder (writer.UnflushedLog number) = codes "UnflushedLog"
name_of_folder (writer.State fault) = state.name_of fault

abbrev pub name_of_source : SourceFault → List ℕ
name_of_source source.OutOfMemory = codes "OutOfMemory"
name_of_source (source.Manifest fault) = recover.name_of fault
name_of_source (source.UnreadLog number fault) = shelf.name_of fault
name_of_source (source.BadLog number fault) = log.name_of fault

abbrev pub name_of_logs : BringFault → List ℕ
name_of_logs bring.OutOfMemory = codes "OutOfMemory"
name_of_logs (bring.Folder fault) = name_of_folder fault
name_of_logs (bring.Read fault) = name_of_source fault
name_of_logs (bring.Bring fault) = import.name_of fault
name_of_logs (bring.Tables fault) = check.name_of fault

abbrev pub name_of : OpeningFault → List ℕ
name_of BadOpening = codes "BadOpening"
name_of NoDatabase = codes "NoDatabase"
name_of IsThere = codes "IsThere"
name_of (Folder fault) = name_of_folder fault
name_of (Logs fault) = name_of_logs fault
