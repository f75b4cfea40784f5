-- What workers answer (this project's rule).
use Rattle.std.specs.Prelude.{◌≡◌, ℕ, Option, None, Some}
use Rattle.lsm_merge.specs.Inputs.{IsReadable}
use Rattle.lsm_state.specs.declared.state_fault.StateFault.{StateFault}
use Rattle.lsm_state.specs.declared.state_fault.StateFault.TheVariants.{OutOfMemory, Shelf, Halted}
use Rattle.lsm_state.specs.declared.state_fault.StateFault.TheVariants.{NumbersSpent, Stale}
use Rattle.lsm_state.specs.declared.state_fault.StateFault.TheVariants.{SlotsHeld, VersionsSpent}
use Rattle.lsm_store.specs.declared.worker_end.WorkerEnd.{WorkerEnd}
use Rattle.lsm_store.specs.declared.worker_fault.WorkerFault.{WorkerFault}
use Rattle.lsm_store.specs.declared.worker_fault.WorkerFault.TheVariants.{NoThread, State, Merge}

-- the refusals of a reservation
abbrev pub IsOfReserving : StateFault → Type 0
IsOfReserving OutOfMemory = Unit {0}
IsOfReserving Halted = Unit {0}
IsOfReserving NumbersSpent = Unit {0}
IsOfReserving e = ⊥

-- the refusals of an install, and of a gather by the state
abbrev pub IsOfInstalling : StateFault → Type 0
IsOfInstalling OutOfMemory = Unit {0}
IsOfInstalling (Shelf fault) = Unit {0}
IsOfInstalling Halted = Unit {0}
IsOfInstalling NumbersSpent = Unit {0}
IsOfInstalling Stale = Unit {0}
IsOfInstalling SlotsHeld = Unit {0}
IsOfInstalling VersionsSpent = Unit {0}
IsOfInstalling e = ⊥

-- What ends a turn: a refusal of a reservation, an install or a gather, or one of a merge, which
-- over an honest shelf is not that the bytes of an input are at fault.
abbrev pub IsOfTurn : Type 0 → WorkerFault → Type 0
IsOfTurn honest NoThread = ⊥
IsOfTurn honest (State fault) = IsOfInstalling fault
IsOfTurn honest (Merge fault) = honest → IsReadable fault

-- What a worker answers: a worker without a thread has installed nothing; another ended where
-- nothing was left, or by such a refusal.
abbrev pub IsEndOf : Type 0 → ℕ → Option WorkerFault → Type 0
IsEndOf honest installed None = Unit {0}
IsEndOf honest installed (Some NoThread) = installed ≡ 0
IsEndOf honest installed (Some (State fault)) = IsOfTurn honest (State fault)
IsEndOf honest installed (Some (Merge fault)) = IsOfTurn honest (Merge fault)

abbrev pub IsWorkersEnd : Type 0 → WorkerEnd → Type 0
IsWorkersEnd honest e = IsEndOf honest e.installed e.fault
