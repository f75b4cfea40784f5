use Rattle.std.proofs.Common.{◌≡◌, ℕ, ◌<◌, None}
use Rattle.lsm_picker.specs.Manual.{first_over}
use Rattle.lsm_picker.proofs.manual.is_cleared.Given as goal

abbrev pub invariant-loop-level : goal.invariant-loop-level
invariant-loop-level g l = (n : ℕ) → n < l.level → first_over l.version n l.from l.to ≡ None
