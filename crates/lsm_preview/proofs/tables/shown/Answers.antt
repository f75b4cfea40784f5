use Rattle.lsm_shelf.specs.Stored.{Stored}
use Rattle.lsm_preview.proofs.TableLaws.{plain_tables, same_tables, tables_fit}
use Rattle.lsm_preview.proofs.tables.shown.Goals as goal

pub returns-then-not-inflates-clause-shown : goal.returns-then-not-inflates-clause-shown
returns-then-not-inflates-clause-shown g c =
    same_tables (Stored g.row.S-Receipt.Denot (g.S.Shelf.is_of g.N.Naming.place)
    g.S.Receipt.TableReceipt.number g.S.Receipt.TableReceipt.image)
    c.args.inflates c.args.base (cc)

pub returns-clause-shown : goal.returns-clause-shown
returns-clause-shown g c =
    plain_tables (Stored g.row.S-Receipt.Denot (g.S.Shelf.is_of g.N.Naming.place)
    g.S.Receipt.TableReceipt.number g.S.Receipt.TableReceipt.image)
    c.args.inflates c.args.base c.with_tables.result c.as_slice.result.now
    c.in_ok-files.files.items (cc) c.as_slice.ensures c.with_tables.ensures
    c.in_ok-files.ensures.plain

pub returns-clause-fits : goal.returns-clause-fits
returns-clause-fits g c =
    let From = Stored g.row.S-Receipt.Denot (g.S.Shelf.is_of g.N.Naming.place)
    g.S.Receipt.TableReceipt.number g.S.Receipt.TableReceipt.image in
    let so = plain_tables From
    c.args.inflates c.args.base c.with_tables.result c.as_slice.result.now
    c.in_ok-files.files.items (cc) c.as_slice.ensures c.with_tables.ensures
    c.in_ok-files.ensures.plain in
    rw so.1 (tables_fit From c.args.inflates c.args.base so.0 c.requires.fits so.2)
