use Rattle.std.proofs.Common.{take}
use Rattle.lsm_store.specs.Sweeping.{RemovesEach}
use Rattle.lsm_store.proofs.sweeping.remove_each.Given as goal

abbrev pub invariant-loop-number : goal.invariant-loop-number
invariant-loop-number g l = RemovesEach g.K.Invariant.keeps (take l.number-index l.numbers) l.fn.shelf l.shelf
