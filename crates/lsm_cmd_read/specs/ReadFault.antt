-- Why an open directory does not answer.
use Rattle.std.specs.Prelude.{⊤}
use Rattle.lsm_shelf.specs.Told.{Told}
use Rattle.lsm_table.specs.ReadFault.{IsMemoryOrShelf, ReadCounted}
use Rattle.lsm_directory.specs.declared.faults.directory_fault.DirectoryFault.{DirectoryFault}
use Rattle.lsm_directory.specs.declared.faults.directory_fault.DirectoryFault.TheVariants.{
  OutOfMemory,
  Write,
  Shelf,
  Manifest,
  Tables,
  Read,
  NumbersSpent,
  Locked,
  UnflushedLog,
  TornManifest,
  LaterManifest,
  RocksDbFiles,
  Absent,
}

-- Memory ran out, or a write failed; or, over an honest shelf, the shelf refused: a refusal of it
-- comes with a count that rose.
abbrev pub IsAnswerFault : Type 0 → DirectoryFault → Told → Told → Type 0
IsAnswerFault Honest OutOfMemory was is = ⊤
IsAnswerFault Honest Write was is = ⊤
IsAnswerFault Honest (Shelf fault) was is = ⊥
IsAnswerFault Honest (Manifest fault) was is = ⊥
IsAnswerFault Honest (Tables fault) was is = ⊥
IsAnswerFault Honest (Read fault) was is =
    (Honest → IsMemoryOrShelf fault) × ReadCounted fault was is
IsAnswerFault Honest NumbersSpent was is = ⊥
IsAnswerFault Honest Locked was is = ⊥
IsAnswerFault Honest (UnflushedLog number) was is = ⊥
IsAnswerFault Honest (TornManifest rest) was is = ⊥
IsAnswerFault Honest (LaterManifest later) was is = ⊥
IsAnswerFault Honest RocksDbFiles was is = ⊥
IsAnswerFault Honest Absent was is = ⊥

-- memory ran out, or a write failed
abbrev pub IsOutputFault : DirectoryFault → Type 0
IsOutputFault OutOfMemory = ⊤
IsOutputFault Write = ⊤
IsOutputFault (Shelf fault) = ⊥
IsOutputFault (Manifest fault) = ⊥
IsOutputFault (Tables fault) = ⊥
IsOutputFault (Read fault) = ⊥
IsOutputFault NumbersSpent = ⊥
IsOutputFault Locked = ⊥
IsOutputFault (UnflushedLog number) = ⊥
IsOutputFault (TornManifest rest) = ⊥
IsOutputFault (LaterManifest later) = ⊥
IsOutputFault RocksDbFiles = ⊥
IsOutputFault Absent = ⊥
