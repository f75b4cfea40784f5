use Rattle.lsm_admission.specs.Keeping.{KeepsTables}
use Rattle.lsm_cmd_read.proofs.quick.begin_recovered.Given as goal

-- the name stands for the records that were just made, and for the contents of the shelf
abbrev pub ghosts-perform_vouched-N-Naming : goal.ghosts-perform_vouched-N-Naming
ghosts-perform_vouched-N-Naming g a =
    record { registry = a.records; place = (g.S.Shelf.told a.shelf).place }

-- the premise is that these contents keep the tables of the shape that was read
abbrev pub ghosts-perform_vouched-V-Vouching : goal.ghosts-perform_vouched-V-Vouching
ghosts-perform_vouched-V-Vouching g a = record {
  holds = KeepsTables (g.S.Finding.keeps (g.S.Shelf.told a.shelf).place) a.recovered.shape;
}
