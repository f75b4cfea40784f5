use Rattle.lsm_repair.proofs.repairing.mend_shelf.Given as goal

-- the name stands for the records that were just made, and for the contents of the shelf
abbrev pub ghosts-mend_as : goal.ghosts-mend_as
ghosts-mend_as g a = record { registry = a.records; place = (g.S.Shelf.told a.shelf).place }
