use Rattle.lsm_storage.specs.MemoryShelf.{memory_told}
use Rattle.example.proofs.version.show_version.Given as goal

-- the name stands for the records and the contents that were just made
abbrev pub ghosts-check_and_read : goal.ghosts-check_and_read
ghosts-check_and_read g a =
    record { registry = a.records; place = (memory_told a.shelf).place }
