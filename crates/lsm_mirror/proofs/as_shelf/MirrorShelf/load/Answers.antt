use Rattle.std.proofs.Common.{refl, sym, ap, ◌∙◌}
use Rattle.std.proofs.lemmas.Result.{err_from_is_err_and}
use Rattle.std.specs.Prelude.{Err}
use Rattle.lsm_shelf.specs.Told.{NotTaken}
use Rattle.lsm_mirror.specs.Shown.{Shown, made_of}
use Rattle.lsm_mirror.specs.declared.view.View.{View}
use Rattle.lsm_mirror.proofs.StoredLaws.{made_is}
use Rattle.lsm_mirror.proofs.ToldLaws.{caused, counted, kind_of}
use Rattle.lsm_mirror.proofs.as_shelf.MirrorShelf.load.Goals as goal

pub returns-in_err-receipt-clause-cause : goal.returns-in_err-receipt-clause-cause
returns-in_err-receipt-clause-cause g c =
    let p = err_from_is_err_and c.from_residual.result c.from_residual.ensures.1 in
    rw (p.1, p.2) (caused g.V.Mirroring.shown c.self.inside.counts c.self.inside.counts
    c.count.new.self
    (g.S.Shelf.told c.self.inside.shelf) (g.S.Shelf.told c.self.inside.shelf) c.args.self.now
    c.self.view_is
    refl {T = Unit {0}} NotTaken (Err c.in_err-receipt.field-0.0)
    (kind_of _ _ (rw (sym c.in_err-receipt.ensures.same) at c.load_made.ensures.refused))
    c.in_err-receipt.ensures.counts)

pub returns-in_err-receipt-clause-counts : goal.returns-in_err-receipt-clause-counts
returns-in_err-receipt-clause-counts g c =
    let p = err_from_is_err_and c.from_residual.result c.from_residual.ensures.1 in
    rw (p.1, p.2) (counted g.V.Mirroring.shown c.self.inside.counts c.self.inside.counts
    c.count.new.self
    (g.S.Shelf.told c.self.inside.shelf) (g.S.Shelf.told c.self.inside.shelf) c.args.self.now
    c.self.view_is
    refl {T = Unit {0}} (Err c.in_err-receipt.field-0.0) c.in_err-receipt.ensures.counts)

pub returns-in-Some-clause-receipt : goal.returns-in-Some-clause-receipt
returns-in-Some-clause-receipt g c =
    let same = sym c.in_ok-receipt.ensures.same in
    let number = rw same at c.load_made.ensures.number in
    let image = rw same at c.load_made.ensures.image in
    let bytes = rw same at c.load_made.ensures.bytes in
    let shown = sym (ap (λ (s : Shown). s.made) c.self.invariant.1)
    ∙ ap (λ (v : View). made_of v.made) (sym c.deref.ensures) ∙ c.in-Some.ensures.1 in (
      number ∙ c.in-Some.ensures.0,
      image ∙ sym bytes,
      made_is g.V.Mirroring.shown.made c.in-Some.made.now.number c.in_ok-receipt.receipt.number
          c.in-Some.made.now.image.items c.in_ok-receipt.receipt.image.numbers shown number image,
    )

pub returns-in_err-receipt-2-clause-cause : goal.returns-in_err-receipt-2-clause-cause
returns-in_err-receipt-2-clause-cause g c =
    let p = err_from_is_err_and c.from_residual-in_err-receipt-2.result
    c.from_residual-in_err-receipt-2.ensures.1 in
    rw (p.1, p.2) (caused g.V.Mirroring.shown c.self.inside.counts c.self.inside.counts
    c.count-2.new.self
    (g.S.Shelf.told c.self.inside.shelf) (g.S.Shelf.told c.load-loaded.new.self) c.args.self.now
    c.self.view_is
    refl {T = Unit {0}} NotTaken (Err c.in_err-receipt-2.field-0.0)
    (rw (sym c.in_err-receipt-2.ensures.same) at c.load-loaded.ensures.cause).0
    c.in_err-receipt-2.ensures.counts)

pub returns-in_err-receipt-2-clause-counts : goal.returns-in_err-receipt-2-clause-counts
returns-in_err-receipt-2-clause-counts g c =
    let p = err_from_is_err_and c.from_residual-in_err-receipt-2.result
    c.from_residual-in_err-receipt-2.ensures.1 in
    rw (p.1, p.2) (counted g.V.Mirroring.shown c.self.inside.counts c.self.inside.counts
    c.count-2.new.self
    (g.S.Shelf.told c.self.inside.shelf) (g.S.Shelf.told c.load-loaded.new.self) c.args.self.now
    c.self.view_is
    refl {T = Unit {0}} (Err c.in_err-receipt-2.field-0.0) c.in_err-receipt-2.ensures.counts)

pub returns-in_err-plain-clause-cause : goal.returns-in_err-plain-clause-cause
returns-in_err-plain-clause-cause g c =
    let p = err_from_is_err_and c.from_residual-in_err-plain.result
    c.from_residual-in_err-plain.ensures.1 in
    rw (p.1, p.2) (caused g.V.Mirroring.shown c.self.inside.counts c.count-2.new.self
    c.count-3.new.self
    (g.S.Shelf.told c.self.inside.shelf) (g.S.Shelf.told c.load-loaded.new.self) c.args.self.now
    c.self.view_is
    c.in_ok-receipt-2.ensures.ok {T = Unit {0}} NotTaken (Err c.in_err-plain.field-0.0)
    (kind_of _ _ (rw (sym c.in_err-plain.ensures.same) at c.plain_of.ensures.refused))
    c.in_err-plain.ensures.counts)

pub returns-in_err-plain-clause-counts : goal.returns-in_err-plain-clause-counts
returns-in_err-plain-clause-counts g c =
    let p = err_from_is_err_and c.from_residual-in_err-plain.result
    c.from_residual-in_err-plain.ensures.1 in
    rw (p.1, p.2) (counted g.V.Mirroring.shown c.self.inside.counts c.count-2.new.self
    c.count-3.new.self
    (g.S.Shelf.told c.self.inside.shelf) (g.S.Shelf.told c.load-loaded.new.self) c.args.self.now
    c.self.view_is
    c.in_ok-receipt-2.ensures.ok {T = Unit {0}} (Err c.in_err-plain.field-0.0)
    c.in_err-plain.ensures.counts)
