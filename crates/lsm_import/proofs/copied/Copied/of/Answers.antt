use Rattle.lsm_shelf.specs.Stored.{Stored}
use Rattle.lsm_import.proofs.CopyLaws.{of_fits}
use Rattle.lsm_import.proofs.copied.Copied.of.Goals as goal

pub returns-clause-fits : goal.returns-clause-fits
returns-clause-fits g c =
    let From = Stored g.row.S-Receipt.Denot (g.S.Shelf.is_of g.N.Naming.place)
    g.S.Receipt.TableReceipt.number g.S.Receipt.TableReceipt.image in
    let Into = Stored g.row.T-Receipt.Denot (g.T.Shelf.is_of g.M.Naming.place)
    g.T.Receipt.TableReceipt.number g.T.Receipt.TableReceipt.image in
    of_fits From Into c.args.shape.now c.in_ok-edit.edit c.as_slice.result.now
    c.in_ok-files.files.items c.of.result c.in_ok-next.next c.args.shape.now.last
    c.in_ok-edit.ensures
    (c.whole_edit_replays.ensures.fit c.args.shape.now c.requires.shape c.requires.keys)
    c.as_slice.ensures c.of.ensures c.in_ok-files.ensures.copied
