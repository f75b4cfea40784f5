use Rattle.lsm_cmd_compact.proofs.compacting.compact_to.Given as goal

-- the name stands for the parts that were just made, and for the contents of the shelf
abbrev pub ghosts-compact_as-N-Boarded : goal.ghosts-compact_as-N-Boarded
ghosts-compact_as-N-Boarded g a = record { board = a.parts.board }

abbrev pub ghosts-compact_as-N-Naming : goal.ghosts-compact_as-N-Naming
ghosts-compact_as-N-Naming g a = record { registry = a.parts.registry; place = (g.S.Shelf.told a.shelf).place }

abbrev pub ghosts-compact_as-N-Historied : goal.ghosts-compact_as-N-Historied
ghosts-compact_as-N-Historied g a = record { history = a.parts.history }
