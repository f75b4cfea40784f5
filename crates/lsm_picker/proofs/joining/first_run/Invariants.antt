use Rattle.std.proofs.Common.{ℕ, ◌+◌, ◌<◌}
use Rattle.lsm_picker.specs.Joining.{IsRun}
use Rattle.lsm_picker.proofs.joining.first_run.Given as goal

abbrev pub invariant-loop-end : goal.invariant-loop-end
invariant-loop-end g l = (at : ℕ) → at + 12 < l.end → IsRun l.target_size l.tables at → ⊥
