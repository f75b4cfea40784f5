use Rattle.std.proofs.Common.{refl, sym, ◌∙◌}
use Rattle.std.proofs.lemmas.Result.{IfErr-weaker, err_from_is_err_and}
use Rattle.std.specs.Prelude.{Err}
use Rattle.lsm_shelf.specs.Told.{NotTaken}
use Rattle.lsm_mirror.proofs.ToldLaws.{caused, counted, kind_of}
use Rattle.lsm_mirror.proofs.as_shelf.MirrorShelf.read_at.Goals as goal

pub returns-in-Direct-clause-cause : goal.returns-in-Direct-clause-cause
returns-in-Direct-clause-cause g c =
    caused g.V.Mirroring.shown c.self.inside.counts c.self.inside.counts c.count.new.self
    (g.S.Shelf.told c.self.inside.shelf) (g.S.Shelf.told c.read_at-part.new.self) c.args.self.now
    c.self.view_is
    refl NotTaken c.count.result (rw c.count.ensures.same
    (IfErr-weaker c.read_at-part.result _ NotTaken (λ e both. both.0) c.read_at-part.ensures.cause))
    c.count.ensures.counts

pub returns-in-Direct-clause-counts : goal.returns-in-Direct-clause-counts
returns-in-Direct-clause-counts g c =
    counted g.V.Mirroring.shown c.self.inside.counts c.self.inside.counts c.count.new.self
    (g.S.Shelf.told c.self.inside.shelf) (g.S.Shelf.told c.read_at-part.new.self) c.args.self.now
    c.self.view_is
    refl c.count.result c.count.ensures.counts

pub returns-in-Made-clause-counts : goal.returns-in-Made-clause-counts
returns-in-Made-clause-counts g c =
    counted g.V.Mirroring.shown c.self.inside.counts c.self.inside.counts c.count-in-Made.new.self
    (g.S.Shelf.told c.self.inside.shelf) (g.S.Shelf.told c.self.inside.shelf) c.args.self.now
    c.self.view_is
    refl c.count-in-Made.result c.count-in-Made.ensures.counts

pub returns-in-Some-held-clause-cause : goal.returns-in-Some-held-clause-cause
returns-in-Some-held-clause-cause g c =
    let kept = rw c.in-Some-held.is at c.loop-table.invariant in
    caused g.V.Mirroring.shown c.self.inside.counts c.self.inside.counts
    c.count-in-Some-held.new.self
    (g.S.Shelf.told c.self.inside.shelf) (g.S.Shelf.told c.self.inside.shelf) c.args.self.now
    c.self.view_is refl NotTaken c.count-in-Some-held.result (rw c.count-in-Some-held.ensures.same
    (IfErr-weaker c.in-Some-held.part _ NotTaken (λ e why. kind_of _ e why) kept.1))
    c.count-in-Some-held.ensures.counts

pub returns-in-Some-held-clause-counts : goal.returns-in-Some-held-clause-counts
returns-in-Some-held-clause-counts g c =
    counted g.V.Mirroring.shown c.self.inside.counts c.self.inside.counts
    c.count-in-Some-held.new.self
    (g.S.Shelf.told c.self.inside.shelf) (g.S.Shelf.told c.self.inside.shelf) c.args.self.now
    c.self.view_is refl c.count-in-Some-held.result c.count-in-Some-held.ensures.counts

pub returns-in_err-bytes-clause-cause : goal.returns-in_err-bytes-clause-cause
returns-in_err-bytes-clause-cause g c =
    let p = err_from_is_err_and c.from_residual.result c.from_residual.ensures.1 in
    rw (p.1, p.2) (caused g.V.Mirroring.shown c.self.inside.counts c.self.inside.counts
    c.count-2.new.self
    (g.S.Shelf.told c.self.inside.shelf) (g.S.Shelf.told c.read_at-read.new.self) c.args.self.now
    c.self.view_is
    refl {T = Unit {0}} NotTaken (Err c.in_err-bytes.field-0.0)
    (rw (sym c.in_err-bytes.ensures.same) at c.read_at-read.ensures.cause).0
    c.in_err-bytes.ensures.counts)

pub returns-in_err-bytes-clause-counts : goal.returns-in_err-bytes-clause-counts
returns-in_err-bytes-clause-counts g c =
    let p = err_from_is_err_and c.from_residual.result c.from_residual.ensures.1 in
    rw (p.1, p.2) (counted g.V.Mirroring.shown c.self.inside.counts c.self.inside.counts
    c.count-2.new.self
    (g.S.Shelf.told c.self.inside.shelf) (g.S.Shelf.told c.read_at-read.new.self) c.args.self.now
    c.self.view_is
    refl {T = Unit {0}} (Err c.in_err-bytes.field-0.0) c.in_err-bytes.ensures.counts)

pub returns-in_err-image-clause-cause : goal.returns-in_err-image-clause-cause
returns-in_err-image-clause-cause g c =
    let p = err_from_is_err_and c.from_residual-in_err-image.result
    c.from_residual-in_err-image.ensures.1 in
    rw (p.1, p.2) (caused g.V.Mirroring.shown c.self.inside.counts c.count-2.new.self
    c.count-3.new.self
    (g.S.Shelf.told c.self.inside.shelf) (g.S.Shelf.told c.read_at-read.new.self) c.args.self.now
    c.self.view_is
    c.in_ok-bytes.ensures.ok {T = Unit {0}} NotTaken (Err c.in_err-image.field-0.0)
    (kind_of _ _ (rw (sym c.in_err-image.ensures.same) at c.plain_of.ensures.refused))
    c.in_err-image.ensures.counts)

pub returns-in_err-image-clause-counts : goal.returns-in_err-image-clause-counts
returns-in_err-image-clause-counts g c =
    let p = err_from_is_err_and c.from_residual-in_err-image.result
    c.from_residual-in_err-image.ensures.1 in
    rw (p.1, p.2) (counted g.V.Mirroring.shown c.self.inside.counts c.count-2.new.self
    c.count-3.new.self
    (g.S.Shelf.told c.self.inside.shelf) (g.S.Shelf.told c.read_at-read.new.self) c.args.self.now
    c.self.view_is
    c.in_ok-bytes.ensures.ok {T = Unit {0}} (Err c.in_err-image.field-0.0)
    c.in_err-image.ensures.counts)

pub returns-clause-cause : goal.returns-clause-cause
returns-clause-cause g c =
    caused g.V.Mirroring.shown c.self.inside.counts c.count-3.new.self c.count-4.new.self
    (g.S.Shelf.told c.self.inside.shelf) (g.S.Shelf.told c.read_at-read.new.self) c.args.self.now
    c.self.view_is
    (c.in_ok-image.ensures.ok ∙ c.in_ok-bytes.ensures.ok) NotTaken c.count-4.result (rw
    c.count-4.ensures.same (IfErr-weaker c.part_of-part-2.result _ NotTaken (λ e why. kind_of _ e
    why)
    c.part_of-part-2.ensures.refused)) c.count-4.ensures.counts

pub returns-clause-counts : goal.returns-clause-counts
returns-clause-counts g c =
    counted g.V.Mirroring.shown c.self.inside.counts c.count-3.new.self c.count-4.new.self
    (g.S.Shelf.told c.self.inside.shelf) (g.S.Shelf.told c.read_at-read.new.self) c.args.self.now
    c.self.view_is
    (c.in_ok-image.ensures.ok ∙ c.in_ok-bytes.ensures.ok) c.count-4.result c.count-4.ensures.counts
