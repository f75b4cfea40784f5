use Rattle.lsm_cmd_load.proofs.into_directory.load_into.Given as goal

-- the name stands for the parts that were just made, and for the contents of the shelf
abbrev pub ghosts-load_as-N-Boarded : goal.ghosts-load_as-N-Boarded
ghosts-load_as-N-Boarded g a = record { board = a.parts.board }

abbrev pub ghosts-load_as-N-Naming : goal.ghosts-load_as-N-Naming
ghosts-load_as-N-Naming g a = record { registry = a.parts.registry; place = (g.S.Shelf.told a.shelf).place }

abbrev pub ghosts-load_as-N-Historied : goal.ghosts-load_as-N-Historied
ghosts-load_as-N-Historied g a = record { history = a.parts.history }
