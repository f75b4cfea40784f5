-- How workers ended, all together (this project's rule).
use Rattle.std.specs.Prelude.{◌≡◌, List, ◌∷◌, ◌++◌, All, None, Some}
use Rattle.lsm_store.specs.declared.worker_end.WorkerEnd.{WorkerEnd}
use Rattle.lsm_store.specs.declared.worker_fault.WorkerFault.{WorkerFault}

abbrev pub IsFaultless : WorkerEnd → Type 0
IsFaultless e = e.fault ≡ None

-- the fault of the first worker that has one
pub record IsFirstFault (fault : WorkerFault) (ends : List WorkerEnd) : Type 0 where
  pub front : List WorkerEnd
  pub first : WorkerEnd
  pub back : List WorkerEnd
  pub parts : ends ≡ front ++ first ∷ back
  pub faultless : All IsFaultless front
  pub its : first.fault ≡ Some fault
