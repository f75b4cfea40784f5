use Rattle.std.proofs.Common.{refl}
use Rattle.lsm_shelf.specs.Told.{TakenIs}
use Rattle.lsm_mirror.proofs.ToldLaws.{caused, counted}
use Rattle.lsm_mirror.proofs.as_shelf.MirrorShelf.start_manifest.Goals as goal

pub returns-clause-cause : goal.returns-clause-cause
returns-clause-cause g c =
    let told = g.S.Shelf.told c.self.inside.shelf in
    caused g.V.Mirroring.shown c.self.inside.counts c.self.inside.counts c.count.new.self told told
    c.args.self.now c.self.view_is refl (TakenIs c.args._number) c.count.result (rw
    c.count.ensures.same tt)
    c.count.ensures.counts

pub returns-clause-counts : goal.returns-clause-counts
returns-clause-counts g c =
    let told = g.S.Shelf.told c.self.inside.shelf in
    counted g.V.Mirroring.shown c.self.inside.counts c.self.inside.counts c.count.new.self told told
    c.args.self.now c.self.view_is refl c.count.result c.count.ensures.counts
