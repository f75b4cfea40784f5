use Rattle.std.proofs.Common.{refl}
use Rattle.std.proofs.lemmas.Result.{IfErr-weaker}
use Rattle.lsm_shelf.specs.Told.{NotNamed}
use Rattle.lsm_mirror.proofs.ToldLaws.{caused, counted}
use Rattle.lsm_mirror.proofs.as_shelf.MirrorShelf.list.Goals as goal

pub returns-clause-cause : goal.returns-clause-cause
returns-clause-cause g c =
    caused g.V.Mirroring.shown c.self.inside.counts c.self.inside.counts c.count.new.self
    (g.S.Shelf.told c.self.inside.shelf) (g.S.Shelf.told c.list-listed.new.self)
    c.args.self.now c.self.view_is refl NotNamed c.count.result
    (rw c.count.ensures.same (IfErr-weaker c.list-listed.result _ NotNamed (λ e both. both.0)
    c.list-listed.ensures.cause)) c.count.ensures.counts

pub returns-clause-counts : goal.returns-clause-counts
returns-clause-counts g c =
    counted g.V.Mirroring.shown c.self.inside.counts c.self.inside.counts c.count.new.self
    (g.S.Shelf.told c.self.inside.shelf) (g.S.Shelf.told c.list-listed.new.self)
    c.args.self.now c.self.view_is refl c.count.result c.count.ensures.counts
