use Rattle.std.proofs.Common.{All, take}
use Rattle.lsm_shelf.specs.Stored.{Stored}
use Rattle.lsm_table.specs.Registry.{Table}
use Rattle.lsm_cmd_import.proofs.given.level_is_given.Given as goal

abbrev pub invariant-loop-table : goal.invariant-loop-table
invariant-loop-table g l =
    All (λ (t : Table). Stored g.row.S-Receipt.Denot (g.S.Shelf.is_of g.N.Naming.place)
    g.S.Receipt.TableReceipt.number g.S.Receipt.TableReceipt.image t.number t.image)
    (take l.table-index l.tables)
