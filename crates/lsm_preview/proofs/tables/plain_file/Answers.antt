use Rattle.std.proofs.Common.{◌∙◌, ap, arith, inl, inr, length, refl}
use Rattle.std.proofs.lemmas.Result.{err_from_is_err_and}
use Rattle.lsm_shelf.specs.Stored.{Stored}
use Rattle.lsm_preview.proofs.TableLaws.{packed_refused, plain_from}
use Rattle.lsm_preview.proofs.tables.plain_file.Goals as goal

pub returns-then-len-file-clause-refused : goal.returns-then-len-file-clause-refused
returns-then-len-file-clause-refused g c = inl (
  refl,
  (
    c.in-Ok.packed.items,
    (
      c.in-Ok._receipt,
      c.in-Ok.ensures.receipt.2,
      c.in-Ok.ensures.receipt.0,
      c.in-Ok.ensures.receipt.1,
    ),
    λ same. absurd (omega (arith, same)),
  ),
)

pub returns-in_err-plain-clause-refused : goal.returns-in_err-plain-clause-refused
returns-in_err-plain-clause-refused g c =
    let p = err_from_is_err_and c.from_residual.result c.from_residual.ensures.1 in
    rw (p.1, p.2) (inr (packed_refused (Stored g.row.S-Receipt.Denot
    (g.S.Shelf.is_of g.N.Naming.place) g.S.Receipt.TableReceipt.number
    g.S.Receipt.TableReceipt.image)
    (g.S.Shelf.refuses g.N.Naming.place) c.args.file.now.file c.in-Ok.packed.items
    c.deref.result.now c.usual.result _ (cc) c.usual.ensures (
      c.in-Ok._receipt,
      c.in-Ok.ensures.receipt.2,
      c.in-Ok.ensures.receipt.0,
      c.in-Ok.ensures.receipt.1,
    ) c.in_err-plain.ensures.refused))

pub returns-clause-plain : goal.returns-clause-plain
returns-clause-plain g c =
    plain_from (Stored g.row.S-Receipt.Denot (g.S.Shelf.is_of g.N.Naming.place)
    g.S.Receipt.TableReceipt.number g.S.Receipt.TableReceipt.image)
    c.args.file.now c.in_ok-shown.shown c.in-Ok.packed.items c.deref.result.now
    c.in_ok-plain.plain.items c.usual.result (cc) c.usual.ensures (
      c.in-Ok._receipt,
      c.in-Ok.ensures.receipt.2,
      c.in-Ok.ensures.receipt.0,
      c.in-Ok.ensures.receipt.1,
    )
    (omega arith) c.in_ok-plain.ensures.plain c.in_ok-plain.ensures.exact
    c.in_ok-shown.ensures.level c.in_ok-shown.ensures.number
    (c.in_ok-shown.ensures.size ∙ ap length c.deref-2.ensures.value)
    c.in_ok-shown.ensures.smallest c.in_ok-shown.ensures.largest
