use Rattle.std.proofs.Common.{subst, sym}
use Rattle.std.proofs.lemmas.List.{take_all}
use Rattle.std.proofs.lemmas.List.Elements.{All-more, All-same}
use Rattle.lsm_shelf.specs.Stored.{Stored}
use Rattle.lsm_table.specs.Registry.{Table}
use Rattle.lsm_cmd_import.proofs.given.level_is_given.Goals as goal

pub loop-table-preserved : goal.loop-table-preserved
loop-table-preserved g c =
    let P : Table → Type 0 = λ t.
    Stored g.row.S-Receipt.Denot (g.S.Shelf.is_of g.N.Naming.place)
    g.S.Receipt.TableReceipt.number g.S.Receipt.TableReceipt.image t.number t.image in
    All-more P c.args.tables.now c.loop-table.table-index c.table-item.result c.loop-table-test.true
    c.loop-table.invariant
    (subst P c.table-item.is (
      c.record-record.result.now.receipt,
      c.record-record.ensures.here,
      c.record-record.ensures.number,
      c.record-record.ensures.image,
    ))

pub returns : goal.returns
returns g c =
    let P : Table → Type 0 = λ t.
    Stored g.row.S-Receipt.Denot (g.S.Shelf.is_of g.N.Naming.place)
    g.S.Receipt.TableReceipt.number g.S.Receipt.TableReceipt.image t.number t.image in
    All-same P c.args.tables.now _ (sym
    (take_all c.loop-table.table-index c.args.tables.now c.loop-table-test.false))
    c.loop-table.invariant
