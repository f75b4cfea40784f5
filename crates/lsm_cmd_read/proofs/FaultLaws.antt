-- Faults of an open directory, after other reads.
use Rattle.lsm_shelf.specs.Told.{Told, Becomes}
use Rattle.lsm_table.proofs.CallerLemmas.{read_counted_later}
use Rattle.lsm_cmd_read.specs.ReadFault.{IsAnswerFault, IsOutputFault}
use Rattle.lsm_directory.specs.declared.faults.directory_fault.DirectoryFault.{DirectoryFault}
use Rattle.lsm_directory.specs.declared.faults.directory_fault.DirectoryFault.TheVariants.{
  OutOfMemory,
  Write,
  Shelf,
  Manifest,
  Tables,
  Read,
  NumbersSpent,
  Locked,
  UnflushedLog,
  TornManifest,
  LaterManifest,
  RocksDbFiles,
  Absent,
}

pub answer_fault_later : (Honest : Type 0) (e : DirectoryFault) (a b c : Told) → Becomes a b
    → IsAnswerFault Honest e b c → IsAnswerFault Honest e a c
answer_fault_later Honest OutOfMemory a b c p f = f
answer_fault_later Honest Write a b c p f = f
answer_fault_later Honest (Shelf fault) a b c p f = f
answer_fault_later Honest (Manifest fault) a b c p f = f
answer_fault_later Honest (Tables fault) a b c p f = f
answer_fault_later Honest (Read fault) a b c p f = (f.0, read_counted_later fault a b c p f.1)
answer_fault_later Honest NumbersSpent a b c p f = f
answer_fault_later Honest Locked a b c p f = f
answer_fault_later Honest (UnflushedLog number) a b c p f = f
answer_fault_later Honest (TornManifest rest) a b c p f = f
answer_fault_later Honest (LaterManifest later) a b c p f = f
answer_fault_later Honest RocksDbFiles a b c p f = f
answer_fault_later Honest Absent a b c p f = f

pub answer_fault_from_output : (Honest : Type 0) (e : DirectoryFault) (a b : Told) → IsOutputFault e
    → IsAnswerFault Honest e a b
answer_fault_from_output Honest OutOfMemory a b f = f
answer_fault_from_output Honest Write a b f = f
answer_fault_from_output Honest (Shelf fault) a b f = absurd f
answer_fault_from_output Honest (Manifest fault) a b f = absurd f
answer_fault_from_output Honest (Tables fault) a b f = absurd f
answer_fault_from_output Honest (Read fault) a b f = absurd f
answer_fault_from_output Honest NumbersSpent a b f = absurd f
answer_fault_from_output Honest Locked a b f = absurd f
answer_fault_from_output Honest (UnflushedLog number) a b f = absurd f
answer_fault_from_output Honest (TornManifest rest) a b f = absurd f
answer_fault_from_output Honest (LaterManifest later) a b f = absurd f
answer_fault_from_output Honest RocksDbFiles a b f = absurd f
answer_fault_from_output Honest Absent a b f = absurd f
