use Rattle.lsm_shelf.specs.Stored.{Stored}
use Rattle.lsm_repair.proofs.ReadLaws.{next_on, unread_memory}
use Rattle.lsm_repair.proofs.reading.read_table.Goals as goal

pub returns-in-Ok-clause-read : goal.returns-in-Ok-clause-read
returns-in-Ok-clause-read g c =
    next_on (Stored g.row.S-Receipt.Denot (g.S.Shelf.is_of g.N.Naming.place)
    g.S.Receipt.TableReceipt.number g.S.Receipt.TableReceipt.image) c.read_image.result
    c.args.number c.in-Ok.packed.items c.deref.result.now c.args.entries.now.items
    c.read_image.new.entries.items
    c.args.left.now.items c.read_image.new.left.items (
      c.in-Ok._receipt,
      c.in-Ok.ensures.receipt.2,
      c.in-Ok.ensures.receipt.0,
      c.in-Ok.ensures.receipt.1,
    )
    c.deref.ensures.value c.read_image.ensures.read

pub returns-in-Ok-clause-refused : goal.returns-in-Ok-clause-refused
returns-in-Ok-clause-refused g c =
    unread_memory (g.S.Shelf.refuses g.N.Naming.place) c.args.number c.read_image.result
    c.read_image.ensures.memory
