use Rattle.lsm_cmd_write.proofs.ingesting.bring_in.Given as goal

-- the name stands for the parts that were just made, and for the contents of the shelf
abbrev pub ghosts-bring_in_as-N-Boarded : goal.ghosts-bring_in_as-N-Boarded
ghosts-bring_in_as-N-Boarded g a = record { board = a.parts.board }

abbrev pub ghosts-bring_in_as-N-Naming : goal.ghosts-bring_in_as-N-Naming
ghosts-bring_in_as-N-Naming g a = record { registry = a.parts.registry; place = (g.S.Shelf.told a.shelf).place }

abbrev pub ghosts-bring_in_as-N-Historied : goal.ghosts-bring_in_as-N-Historied
ghosts-bring_in_as-N-Historied g a = record { history = a.parts.history }
