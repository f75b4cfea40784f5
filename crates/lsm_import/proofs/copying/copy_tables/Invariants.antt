use Rattle.std.proofs.Common.{take}
use Rattle.lsm_shelf.specs.Stored.{Stored}
use Rattle.lsm_shelf.specs.Told.{Becomes}
use Rattle.lsm_import.specs.Copies.{OnlyPuts}
use Rattle.lsm_import.proofs.CopyLaws.{Copying}
use Rattle.lsm_import.proofs.copying.copy_tables.Given as goal

abbrev pub invariant-loop-file : goal.invariant-loop-file
invariant-loop-file g l = record {
  copies : Copying (Stored g.row.S-Receipt.Denot (g.S.Shelf.is_of g.N.Naming.place)
      g.S.Receipt.TableReceipt.number g.S.Receipt.TableReceipt.image)
      (Stored g.row.T-Receipt.Denot (g.T.Shelf.is_of g.M.Naming.place)
      g.T.Receipt.TableReceipt.number g.T.Receipt.TableReceipt.image)
      (take l.file-index l.files) l.copies.items;
  read : Becomes l.fn.source l.source;
  puts : OnlyPuts l.fn.target l.target;
}
