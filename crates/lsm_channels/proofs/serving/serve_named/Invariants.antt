use Rattle.lsm_channels.specs.Keeping.{HasComeTo}
use Rattle.lsm_channels.proofs.serving.serve_named.Given as goal

-- the lock keeps that the state came from this one
abbrev pub ghosts-serve_state : goal.ghosts-serve_state
ghosts-serve_state g a = record { keeps = HasComeTo g.S.Shelf.honest g.W.Wire.gives a.state }
