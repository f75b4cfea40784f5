use Rattle.std.proofs.Common.{refl, sym}
use Rattle.std.proofs.lemmas.Result.{err_from_is_err_and}
use Rattle.std.specs.Prelude.{Err}
use Rattle.lsm_shelf.specs.Told.{NotTaken}
use Rattle.lsm_mirror.proofs.ToldLaws.{caused, counted}
use Rattle.lsm_mirror.proofs.as_shelf.MirrorShelf.read_manifest.Goals as goal

pub returns-in_err-number-clause-cause : goal.returns-in_err-number-clause-cause
returns-in_err-number-clause-cause g c =
    let p = err_from_is_err_and c.from_residual-in_err-number.result
    c.from_residual-in_err-number.ensures.1 in
    rw (p.1, p.2) (caused g.V.Mirroring.shown c.self.inside.counts c.self.inside.counts
    c.count.new.self
    (g.S.Shelf.told c.self.inside.shelf) (g.S.Shelf.told c.read_manifest-read.new.self)
    c.args.self.now c.self.view_is
    refl {T = Unit {0}} NotTaken (Err c.in_err-number.field-0.0)
    (rw (sym c.in_err-number.ensures.same) at c.read_manifest-read.ensures.cause).0
    c.in_err-number.ensures.counts)

pub returns-in_err-number-clause-counts : goal.returns-in_err-number-clause-counts
returns-in_err-number-clause-counts g c =
    let p = err_from_is_err_and c.from_residual-in_err-number.result
    c.from_residual-in_err-number.ensures.1 in
    rw (p.1, p.2) (counted g.V.Mirroring.shown c.self.inside.counts c.self.inside.counts
    c.count.new.self
    (g.S.Shelf.told c.self.inside.shelf) (g.S.Shelf.told c.read_manifest-read.new.self)
    c.args.self.now c.self.view_is
    refl {T = Unit {0}} (Err c.in_err-number.field-0.0) c.in_err-number.ensures.counts)
