use Rattle.std.proofs.Common.{◌∷◌}
use Rattle.lsm_store.specs.Working.{IsTurn}
use Rattle.lsm_store.proofs.worker.work.Goals as goal

pub loop-preserved-in-Ok-Some : goal.loop-preserved-in-Ok-Some
loop-preserved-in-Ok-Some g c =
    let before = c.loop.invariant.2 in
    let did : IsTurn g.S.Shelf.honest g.K.Invariant.keeps c.args.picks.now c.in-Ok-Some.did c.loop.shelf c.turn.new.shelf = rw c.in-Ok-Some.field-0-is at c.in-Ok-Some.ensures.turn in
    (tt, tt, (c.in-Ok-Some.did ∷ before.0, c.counted-installed.ensures.more before.0 before.1, (c.loop.shelf, before.2, did)))
