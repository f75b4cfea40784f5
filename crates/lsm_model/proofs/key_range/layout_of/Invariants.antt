use Rattle.std.proofs.Common.{◌≡◌, length}
use Rattle.lsm_model.specs.Ranges.{layout_along}
use Rattle.lsm_model.specs.declared.key_range.Layout.TheVariants.{Apart}
use Rattle.lsm_model.proofs.key_range.layout_of.Given as goal

abbrev pub invariant-loop-rest : goal.invariant-loop-rest
invariant-loop-rest l = layout_along Apart l.fn.ranges ≡ layout_along l.layout l.rest

abbrev pub decreases-loop-rest : goal.decreases-loop-rest
decreases-loop-rest l = length l.rest
