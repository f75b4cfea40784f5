use Rattle.lsm_channels.proofs.serving.serve_on.Given as goal

-- the name stands for the parts that were just made, and for the contents of the shelf
abbrev pub ghosts-serve_as-N-Boarded : goal.ghosts-serve_as-N-Boarded
ghosts-serve_as-N-Boarded g a = record { board = a.parts.board }

abbrev pub ghosts-serve_as-N-Naming : goal.ghosts-serve_as-N-Naming
ghosts-serve_as-N-Naming g a = record { registry = a.parts.registry; place = (g.S.Shelf.told a.shelf).place }

abbrev pub ghosts-serve_as-N-Historied : goal.ghosts-serve_as-N-Historied
ghosts-serve_as-N-Historied g a = record { history = a.parts.history }
