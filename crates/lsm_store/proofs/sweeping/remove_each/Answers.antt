use Rattle.std.proofs.Common.{get_or, refl}
use Rattle.lsm_store.proofs.SweepLaws.{removes_next}
use Rattle.lsm_store.proofs.sweeping.remove_each.Goals as goal

pub loop-number-init : goal.loop-number-init
loop-number-init g c = refl

pub loop-number-preserved : goal.loop-number-preserved
loop-number-preserved g c =
    let ns = c.args.numbers.now in
    let i = c.loop-number.number-index in
    removes_next g.K.Invariant.keeps ns i (get_or ns i 0) c.args.shelf.now c.loop-number.shelf c.remove_under_lock.new.shelf c.loop-number-test.true refl c.loop-number.invariant c.remove_under_lock.ensures
