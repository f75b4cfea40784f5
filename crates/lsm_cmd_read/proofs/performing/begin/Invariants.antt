use Rattle.lsm_cmd_read.proofs.performing.begin.Given as goal

-- the name stands for the records that were just made, and for the contents of the shelf
abbrev pub ghosts-perform_as : goal.ghosts-perform_as
ghosts-perform_as g a = record { registry = a.records; place = (g.S.Shelf.told a.shelf).place }
