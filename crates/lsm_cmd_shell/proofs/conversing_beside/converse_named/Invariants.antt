use Rattle.lsm_cmd_shell.specs.Keeping.{HasComeTo}
use Rattle.lsm_cmd_shell.proofs.conversing_beside.converse_named.Given as goal

-- the lock keeps that the state came from this one
abbrev pub ghosts-converse_on : goal.ghosts-converse_on
ghosts-converse_on g a = record { keeps = HasComeTo g.S.Shelf.honest a.form a.lines.left a.state }
