use Rattle.lsm_folder.specs.SystemFolder.{system_place}
use Rattle.lsm_storage.specs.FileShelf.{folder_of}
use Rattle.lsm_theorems.proofs.made.what_came_in_is_read.Given as goal

-- the name stands for the records and the contents that were just made
abbrev pub ghosts-read_back-N-Naming : goal.ghosts-read_back-N-Naming
ghosts-read_back-N-Naming g a = record { registry = a.records; place = system_place (folder_of a.shelf) }

-- and for the board
abbrev pub ghosts-read_back-N-Boarded : goal.ghosts-read_back-N-Boarded
ghosts-read_back-N-Boarded g a = record { board = a.board.0.board }

-- and for the history
abbrev pub ghosts-read_back-N-Historied : goal.ghosts-read_back-N-Historied
ghosts-read_back-N-Historied g a = record { history = a.history.table.shared.table_id }
