use Rattle.lsm_storage.specs.FileShelf.{file_told}
use Rattle.lsm_cmd_write.proofs.cleaning.kept.kept_in.Given as goal

-- the name stands for the records that were just made, and for the contents of the shelf
abbrev pub ghosts-find_kept_as : goal.ghosts-find_kept_as
ghosts-find_kept_as g a = record { registry = a.records; place = (file_told g.C.FolderCalls.place a.shelf).place }
