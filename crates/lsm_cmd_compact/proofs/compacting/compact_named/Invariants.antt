use Rattle.lsm_store.specs.Compacting.{IsLeftByWorkers}
use Rattle.lsm_cmd_compact.proofs.compacting.compact_named.Given as goal

-- the lock keeps that workers alone change the state that was opened
abbrev pub ghosts-compact_state : goal.ghosts-compact_state
ghosts-compact_state g a = record { keeps = IsLeftByWorkers g.S.Shelf.honest a.state }
