use Rattle.lsm_database.proofs.running.run_on.Given as goal

-- the name stands for the parts that were just made, and for the contents of the shelf
abbrev pub ghosts-run_as-N-Boarded : goal.ghosts-run_as-N-Boarded
ghosts-run_as-N-Boarded g a = record { board = a.parts.board }

abbrev pub ghosts-run_as-N-Naming : goal.ghosts-run_as-N-Naming
ghosts-run_as-N-Naming g a = record { registry = a.parts.registry; place = (g.S.Shelf.told a.shelf).place }

abbrev pub ghosts-run_as-N-Historied : goal.ghosts-run_as-N-Historied
ghosts-run_as-N-Historied g a = record { history = a.parts.history }
