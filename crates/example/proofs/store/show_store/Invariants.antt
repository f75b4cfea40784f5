use Rattle.lsm_storage.specs.MemoryShelf.{memory_told}
use Rattle.example.proofs.store.show_store.Given as goal

-- the name stands for the parts and the contents that were just made
abbrev pub ghosts-serve-N-Naming : goal.ghosts-serve-N-Naming
ghosts-serve-N-Naming g a =
    record { registry = a.parts.registry; place = (memory_told a.shelf).place }

-- and for the board
abbrev pub ghosts-serve-N-Boarded : goal.ghosts-serve-N-Boarded
ghosts-serve-N-Boarded g a = record { board = a.parts.board }

-- and for the history
abbrev pub ghosts-serve-N-Historied : goal.ghosts-serve-N-Historied
ghosts-serve-N-Historied g a = record { history = a.parts.history }
