use Rattle.std.proofs.Common.{◌≡◌, length}
use Rattle.lsm_block.specs.Held.{rest_of}
use Rattle.lsm_inflate.proofs.LoopLaws.{Going}
use Rattle.lsm_inflate.proofs.packed_file.fill.Given as goal

abbrev pub invariant-loop-here : goal.invariant-loop-here
invariant-loop-here l = Going l.initial.table.options l.body l.index l.end l.before l.here l.table.entries l.initial.table.entries × (l.table.options ≡ l.initial.table.options)

abbrev pub decreases-loop-here : goal.decreases-loop-here
decreases-loop-here l = length (rest_of l.index l.here)
