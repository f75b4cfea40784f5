use Rattle.lsm_cmd_shell.proofs.conversing_to_read.converse_to_read.Given as goal

-- the name stands for the parts that were just made, and for the contents of the shelf
abbrev pub ghosts-converse_as-N-Boarded : goal.ghosts-converse_as-N-Boarded
ghosts-converse_as-N-Boarded g a = record { board = a.parts.board }

abbrev pub ghosts-converse_as-N-Naming : goal.ghosts-converse_as-N-Naming
ghosts-converse_as-N-Naming g a = record
    { registry = a.parts.registry; place = (g.S.Shelf.told a.shelf).place }

abbrev pub ghosts-converse_as-N-Historied : goal.ghosts-converse_as-N-Historied
ghosts-converse_as-N-Historied g a = record { history = a.parts.history }
