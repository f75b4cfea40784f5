use Rattle.std.proofs.Common.{All, take}
use Rattle.lsm_shelf.specs.Stored.{Stored}
use Rattle.lsm_table.specs.Registry.{Table}
use Rattle.lsm_cmd_import.proofs.given.tables_are_given.Given as goal

abbrev pub invariant-loop-level : goal.invariant-loop-level
invariant-loop-level g l =
    All (λ v. All (λ (t : Table). Stored g.row.S-Receipt.Denot (g.S.Shelf.is_of g.N.Naming.place)
    g.S.Receipt.TableReceipt.number g.S.Receipt.TableReceipt.image t.number t.image) v.items)
    (take l.level-index l.levels)
