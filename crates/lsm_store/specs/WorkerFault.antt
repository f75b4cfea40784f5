-- The refusals of a worker: their numbers and names (this project's rule).
use Rattle.std.specs.Prelude.{ℕ, List, codes}
use Rattle.lsm_merge.specs.MergeFault as merge
use Rattle.lsm_state.specs.StateFault as state
use Rattle.lsm_state.specs.declared.gather_fault.GatherFault.{GatherFault}
use Rattle.lsm_state.specs.declared.gather_fault.GatherFault.TheVariants as gather
use Rattle.lsm_store.specs.declared.worker_fault.WorkerFault.{WorkerFault}
use Rattle.lsm_store.specs.declared.worker_fault.WorkerFault.TheVariants.{NoThread, State, Merge}

abbrev pub number_of : WorkerFault → ℕ
number_of NoThread = 1
number_of (State fault) = state.number_of fault
number_of (Merge fault) = merge.number_of fault

abbrev pub name_of : WorkerFault → List ℕ
name_of NoThread = codes "OutOfMemory"
name_of (State fault) = state.name_of fault
name_of (Merge fault) = merge.name_of fault

-- a refusal to gather, as one of the worker who gathers
abbrev pub of_gather : GatherFault → WorkerFault
of_gather (gather.State fault) = State fault
of_gather (gather.Merge fault) = Merge fault
