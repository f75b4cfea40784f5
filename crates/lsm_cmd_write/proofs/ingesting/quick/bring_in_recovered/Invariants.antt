use Rattle.lsm_admission.specs.Keeping.{KeepsTables}
use Rattle.lsm_cmd_write.proofs.ingesting.quick.bring_in_recovered.Given as goal

-- the name stands for the parts that were just made, and for the contents of the shelf
abbrev pub ghosts-bring_in_vouched-N-Boarded : goal.ghosts-bring_in_vouched-N-Boarded
ghosts-bring_in_vouched-N-Boarded g a = record { board = a.parts.board }

abbrev pub ghosts-bring_in_vouched-N-Naming : goal.ghosts-bring_in_vouched-N-Naming
ghosts-bring_in_vouched-N-Naming g a =
    record { registry = a.parts.registry; place = (g.S.Shelf.told a.shelf).place }

abbrev pub ghosts-bring_in_vouched-N-Historied : goal.ghosts-bring_in_vouched-N-Historied
ghosts-bring_in_vouched-N-Historied g a = record { history = a.parts.history }

-- the premise is that these contents keep the tables of the shape that was read
abbrev pub ghosts-bring_in_vouched-V-Vouching : goal.ghosts-bring_in_vouched-V-Vouching
ghosts-bring_in_vouched-V-Vouching g a = record {
  holds = KeepsTables (g.S.Finding.keeps (g.S.Shelf.told a.shelf).place) a.recovered.shape;
}
