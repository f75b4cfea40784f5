use Rattle.lsm_store.specs.Compacting.{IsLeftByWorkers}
use Rattle.lsm_theorems.proofs.compactions.workers_change_no_answer.Given as goal

-- the lock keeps that workers alone change the state
abbrev pub ghosts-let_work : goal.ghosts-let_work
ghosts-let_work g a = record { keeps = IsLeftByWorkers g.S.Shelf.honest a.state }
