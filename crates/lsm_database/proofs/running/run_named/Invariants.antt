use Rattle.lsm_database.proofs.running.run_named.Given as goal

-- the lock keeps that the state came from this one, by batches alone that this program may ask for
abbrev pub ghosts-run_state : goal.ghosts-run_state
ghosts-run_state g a = record {
  found = a.state;
  asks = g.P.Program.asks a.program g.S.Shelf.honest a.state.history;
}
