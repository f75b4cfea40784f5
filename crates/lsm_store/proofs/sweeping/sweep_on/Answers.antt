use Rattle.lsm_store.proofs.SweepLaws.{swept_more}
use Rattle.lsm_store.proofs.sweeping.sweep_on.Goals as goal

pub loop-preserved : goal.loop-preserved
loop-preserved g c =
    (tt, tt, swept_more (g.S.Shelf.refuses g.N.Naming.place) g.K.Invariant.keeps c.args.shelf.now c.loop.shelf c.sweep.new.shelf c.loop.invariant.2 c.sweep.ensures)
