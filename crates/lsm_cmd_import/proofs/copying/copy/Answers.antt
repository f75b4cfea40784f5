use Rattle.std.proofs.Common.{inl, refl}
use Rattle.lsm_shelf.specs.Stored.{Stored}
use Rattle.lsm_cmd_import.proofs.MadeLaws.{made}
use Rattle.lsm_cmd_import.proofs.copying.copy.Goals as goal

pub returns-in-Err-clause-refused : goal.returns-in-Err-clause-refused
returns-in-Err-clause-refused g c = inl (c.in-Err.fault, refl, rw c.usual-options.ensures at c.in-Err.ensures.refused)

pub returns-in-Ok-finish-clause-made : goal.returns-in-Ok-finish-clause-made
returns-in-Ok-finish-clause-made g c =
    made c.copies_answer.ensures.copy
    (Stored g.row.S-Receipt.Denot (g.S.Shelf.is_of g.N.Naming.place) g.S.Receipt.TableReceipt.number g.S.Receipt.TableReceipt.image)
    (Stored g.row.T-Receipt.Denot (g.T.Shelf.is_of g.M.Naming.place) g.T.Receipt.TableReceipt.number g.T.Receipt.TableReceipt.image)
    g.T.Shelf.honest c.args.shape.now c.args.logs c.in-Ok.copied c.in-Ok-finish.counts.tables c.in-Ok-finish.counts.entries c.args.target.now c.of.new.target c.finish.new.target c.of.ensures.puts c.in-Ok.ensures.copied
    c.in-Ok-finish.ensures.finished
