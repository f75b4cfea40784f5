-- What is printed of a refused compaction: this project's rule.
use Rattle.std.specs.Prelude.{ℕ, List, codes, Option, None, Some}
use Rattle.lsm_store.specs.declared.worker_fault.WorkerFault.{WorkerFault}
use Rattle.lsm_store.specs.declared.worker_fault.WorkerFault.TheVariants.{NoThread, State, Merge}
use Rattle.lsm_merge.specs.declared.merge_fault.MergeFault.{MergeFault}
use Rattle.lsm_merge.specs.declared.merge_fault.MergeFault.TheVariants as merge_faults
use Rattle.lsm_text.specs.FaultText.{refusal_text}
use Rattle.lsm_refusals.specs.RefusalText.{merge_text, state_text}
use Rattle.lsm_opening.specs.WriterFault as writer
use Rattle.lsm_opening.specs.declared.faults.compact_fault.CompactFault.{CompactFault}
use Rattle.lsm_opening.specs.declared.faults.compact_fault.CompactFault.TheVariants.{Writer, Worker}
use Rattle.lsm_opening.specs.declared.faults.compact_fault.CompactFault.TheVariants.{OtherManifest}

abbrev pub worker_text : WorkerFault → List ℕ
worker_text NoThread = refusal_text 1 (codes "OutOfMemory") None
worker_text (State fault) = state_text fault
worker_text (Merge fault) = merge_text fault

abbrev pub fault_text : CompactFault → Option (List ℕ)
fault_text (Writer fault) = writer.fault_text fault
fault_text (Worker fault) = Some (worker_text fault)
fault_text OtherManifest = Some (refusal_text 10 (codes "Missing") None)

-- the number of the file that a merge failed to read or to put
abbrev pub table_of_merge : MergeFault → Option ℕ
table_of_merge merge_faults.OutOfMemory = None
table_of_merge (merge_faults.ReadFailed number fault) = Some number
table_of_merge (merge_faults.PutFailed number fault) = Some number
table_of_merge (merge_faults.UnknownTicket ticket) = None
table_of_merge merge_faults.NumbersSpent = None

-- the number of the file whose table is refused
abbrev pub table_file_of : CompactFault → Option ℕ
table_file_of (Writer fault) = writer.table_file_of fault
table_file_of (Worker NoThread) = None
table_file_of (Worker (State fault)) = None
table_file_of (Worker (Merge fault)) = table_of_merge fault
table_file_of OtherManifest = None
