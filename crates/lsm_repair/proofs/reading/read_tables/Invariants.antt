use Rattle.std.proofs.Common.{take}
use Rattle.lsm_shelf.specs.Stored.{Stored}
use Rattle.lsm_shelf.specs.Told.{Becomes}
use Rattle.lsm_repair.specs.Reading.{AreRead}
use Rattle.lsm_repair.proofs.reading.read_tables.Given as goal

-- the tables so far were read
abbrev pub invariant-loop-number : goal.invariant-loop-number
invariant-loop-number g l = record {
  read : AreRead (Stored g.row.S-Receipt.Denot (g.S.Shelf.is_of g.N.Naming.place)
      g.S.Receipt.TableReceipt.number g.S.Receipt.TableReceipt.image)
      (take l.number-index l.numbers)
      l.entries.items l.left.items;
  told : Becomes l.fn.shelf l.shelf;
}
