use Rattle.lsm_cmd_import.proofs.importing.import.Given as goal

-- the one name stands for the contents of the source's shelf
abbrev pub ghosts-import_as-N-Naming : goal.ghosts-import_as-N-Naming
ghosts-import_as-N-Naming g a = record { registry = a.records; place = (g.S.Shelf.told a.source).place }

-- the other for the records that were just made, and for the contents of the target's shelf
abbrev pub ghosts-import_as-M-Naming : goal.ghosts-import_as-M-Naming
ghosts-import_as-M-Naming g a = record { registry = a.records; place = (g.T.Shelf.told a.target).place }
