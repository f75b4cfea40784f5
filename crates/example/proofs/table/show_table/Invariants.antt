use Rattle.std.specs.Prelude.{[]}
use Rattle.lsm_storage.specs.MemoryShelf.{memory_told}
use Rattle.example.proofs.table.show_table.Given as goal

-- the name stands for the contents that were just made; there are no records
abbrev pub ghosts-read_from : goal.ghosts-read_from
ghosts-read_from g a =
    record { registry = record { tag = []; buckets = [] }; place = (memory_told a.shelf).place }
