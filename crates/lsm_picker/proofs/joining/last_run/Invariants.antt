use Rattle.std.proofs.Common.{ℕ, ◌+◌, ◌<◌, length}
use Rattle.lsm_picker.specs.Joining.{IsRun}
use Rattle.lsm_picker.proofs.joining.last_run.Given as goal

abbrev pub invariant-loop-rest : goal.invariant-loop-rest
invariant-loop-rest g l = (at : ℕ) → length l.tables < at + l.rest
    → IsRun l.target_size l.tables at → ⊥
