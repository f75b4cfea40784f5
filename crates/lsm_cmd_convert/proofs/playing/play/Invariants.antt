use Rattle.lsm_storage.specs.MemoryShelf.{memory_told}
use Rattle.lsm_cmd_convert.proofs.playing.play.Given as goal

-- the name stands for the parts that were just made, and for the contents of the new shelf
abbrev pub ghosts-play_as-N-Boarded : goal.ghosts-play_as-N-Boarded
ghosts-play_as-N-Boarded g a = record { board = a.parts.board }

abbrev pub ghosts-play_as-N-Naming : goal.ghosts-play_as-N-Naming
ghosts-play_as-N-Naming g a = record { registry = a.parts.registry; place = (memory_told a.shelf).place }

abbrev pub ghosts-play_as-N-Historied : goal.ghosts-play_as-N-Historied
ghosts-play_as-N-Historied g a = record { history = a.parts.history }
