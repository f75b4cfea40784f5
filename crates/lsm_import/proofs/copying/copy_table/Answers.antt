use Rattle.lsm_shelf.specs.Stored.{Stored}
use Rattle.lsm_import.proofs.CopyLaws.{copy_from}
use Rattle.lsm_import.proofs.copying.copy_table.Goals as goal

pub returns-clause-copied : goal.returns-clause-copied
returns-clause-copied g c =
    copy_from (Stored g.row.S-Receipt.Denot (g.S.Shelf.is_of g.N.Naming.place)
    g.S.Receipt.TableReceipt.number g.S.Receipt.TableReceipt.image)
    (Stored g.row.T-Receipt.Denot (g.T.Shelf.is_of g.M.Naming.place) g.T.Receipt.TableReceipt.number
    g.T.Receipt.TableReceipt.image)
    c.args.file.now c.in-Ok.packed.items c.in_ok-plain.plain.items c.deref.result.now
    c.deref-2.result.now c.put_plain.result (
      c.in-Ok._receipt,
      c.in-Ok.ensures.receipt.2,
      c.in-Ok.ensures.receipt.0,
      c.in-Ok.ensures.receipt.1,
    )
    c.in_ok-plain.ensures.plain (cc) (cc)
    c.put_plain.ensures.put c.put_plain.ensures.level c.put_plain.ensures.number
    c.put_plain.ensures.size c.put_plain.ensures.smallest c.put_plain.ensures.largest
