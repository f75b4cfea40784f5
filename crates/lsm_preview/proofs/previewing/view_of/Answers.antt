use Rattle.std.proofs.Common.{inl, inr, refl}
use Rattle.std.proofs.lemmas.Result.{err_from_is_err_and}
use Rattle.lsm_shelf.specs.Stored.{Stored}
use Rattle.lsm_mirror.specs.Shown.{shown_of}
use Rattle.lsm_preview.proofs.LooksLaws.{becomes_looks, looks_then}
use Rattle.lsm_preview.proofs.ViewLaws.{logs_unshown, view_from}
use Rattle.lsm_preview.proofs.previewing.view_of.Goals as goal

pub returns-clause-view : goal.returns-clause-view
returns-clause-view g c =
    view_from (Stored g.row.S-Receipt.Denot (g.S.Shelf.is_of g.N.Naming.place)
    g.S.Receipt.TableReceipt.number g.S.Receipt.TableReceipt.image)
    c.args.inflates c.args.read.shape c.args.read.numbers.items c.args.read.logs
    c.args.shelf.now c.base_of.new.shelf c.shown.new.shelf c.in_ok-base.base
    c.in_ok-tables.tables c.in_ok-whole.whole c.in_ok-whole.table _ _
    c.in_ok-base.ensures.base c.in_ok-tables.ensures.read c.in_ok-base.ensures.none
    c.in_ok-tables.ensures.shown c.in_ok-whole.ensures.logs c.in_ok-whole.ensures.none
    c.made_of.ensures refl c.in_ok-manifest.ensures.bytes c.in_ok-manifest.ensures.manifest refl

pub returns-clause-looks : goal.returns-clause-looks
returns-clause-looks g c =
    looks_then c.args.shelf.now c.base_of.new.shelf c.shown.new.shelf c.in_ok-base.ensures.looks
    (becomes_looks c.base_of.new.shelf c.shown.new.shelf c.in_ok-tables.ensures.read)

pub returns-in_err-base-clause-refused : goal.returns-in_err-base-clause-refused
returns-in_err-base-clause-refused g c =
    let p = err_from_is_err_and c.from_residual.result c.from_residual.ensures.1 in
    rw (p.1, p.2) (inl c.in_err-base.ensures.refused)

pub returns-in_err-tables-clause-refused : goal.returns-in_err-tables-clause-refused
returns-in_err-tables-clause-refused g c =
    let p = err_from_is_err_and c.from_residual-in_err-tables.result
    c.from_residual-in_err-tables.ensures.1 in
    rw (p.1, p.2) (inr (
      c.in_ok-base.base,
      c.base_of.new.shelf,
      c.in_ok-base.ensures.base,
      (_, refl, inl c.in_err-tables.ensures.refused),
    ))

pub returns-in_err-tables-clause-looks : goal.returns-in_err-tables-clause-looks
returns-in_err-tables-clause-looks g c =
    looks_then c.args.shelf.now c.base_of.new.shelf c.shown.new.shelf c.in_ok-base.ensures.looks
    (becomes_looks c.base_of.new.shelf c.shown.new.shelf c.in_err-tables.ensures.read)

pub returns-in_err-whole-clause-refused : goal.returns-in_err-whole-clause-refused
returns-in_err-whole-clause-refused g c =
    let p = err_from_is_err_and c.from_residual-in_err-whole.result
    c.from_residual-in_err-whole.ensures.1 in
    rw (p.1, p.2) (logs_unshown (Stored g.row.S-Receipt.Denot (g.S.Shelf.is_of g.N.Naming.place)
    g.S.Receipt.TableReceipt.number g.S.Receipt.TableReceipt.image)
    (g.S.Shelf.refuses g.N.Naming.place)
    c.args.inflates c.args.read.shape c.args.read.numbers.items c.args.read.logs
    c.args.shelf.now c.base_of.new.shelf c.shown.new.shelf c.in_ok-base.base
    c.in_ok-tables.tables c.usual.result _ c.in_ok-base.ensures.base c.in_ok-tables.ensures.read
    c.in_ok-tables.ensures.shown c.usual.ensures c.in_err-whole.ensures.refused)

pub returns-in_err-whole-clause-looks : goal.returns-in_err-whole-clause-looks
returns-in_err-whole-clause-looks g c =
    looks_then c.args.shelf.now c.base_of.new.shelf c.shown.new.shelf c.in_ok-base.ensures.looks
    (becomes_looks c.base_of.new.shelf c.shown.new.shelf c.in_ok-tables.ensures.read)

pub returns-in_err-manifest-clause-looks : goal.returns-in_err-manifest-clause-looks
returns-in_err-manifest-clause-looks g c =
    looks_then c.args.shelf.now c.base_of.new.shelf c.shown.new.shelf c.in_ok-base.ensures.looks
    (becomes_looks c.base_of.new.shelf c.shown.new.shelf c.in_ok-tables.ensures.read)
