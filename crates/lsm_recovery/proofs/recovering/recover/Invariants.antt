use Rattle.lsm_recovery.proofs.recovering.recover.Given as goal

-- the name stands for the records that were just made, and for the contents of the shelf
abbrev pub ghosts-recover_as : goal.ghosts-recover_as
ghosts-recover_as g a = record { registry = a.records; place = (g.S.Shelf.told a.shelf).place }
