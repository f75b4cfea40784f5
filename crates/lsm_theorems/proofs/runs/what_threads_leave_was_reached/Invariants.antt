use Rattle.lsm_theorems.specs.Calls.{IsReached}
use Rattle.lsm_theorems.proofs.runs.what_threads_leave_was_reached.Given as goal

-- the lock keeps that the state was reached by calls
abbrev pub ghosts-let_call : goal.ghosts-let_call
ghosts-let_call g a = record { keeps = IsReached g.S.Shelf.honest a.state }
