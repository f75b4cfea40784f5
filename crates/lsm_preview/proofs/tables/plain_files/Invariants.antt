use Rattle.std.proofs.Common.{take}
use Rattle.lsm_shelf.specs.Stored.{Stored}
use Rattle.lsm_shelf.specs.Told.{Becomes}
use Rattle.lsm_preview.proofs.TableLaws.{Shown}
use Rattle.lsm_preview.proofs.tables.plain_files.Given as goal

abbrev pub invariant-loop-file : goal.invariant-loop-file
invariant-loop-file g l = record {
  plain : Shown (Stored g.row.S-Receipt.Denot (g.S.Shelf.is_of g.N.Naming.place)
      g.S.Receipt.TableReceipt.number g.S.Receipt.TableReceipt.image)
      (take l.file-index l.files) l.shown.items;
  read : Becomes l.fn.shelf l.shelf;
}
