use Rattle.lsm_picker.specs.Joining.{NoRunAbove}
use Rattle.lsm_picker.proofs.joining.span_to_join.Given as goal

abbrev pub invariant-loop-level : goal.invariant-loop-level
invariant-loop-level g l = NoRunAbove l.target_size l.version l.level
