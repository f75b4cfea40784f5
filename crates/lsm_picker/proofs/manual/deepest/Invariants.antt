use Rattle.std.proofs.Common.{◌≡◌, ℕ, ◌+◌, ◌<◌, ◌≤◌, None}
use Rattle.lsm_picker.specs.Manual.{first_over}
use Rattle.lsm_picker.proofs.manual.deepest.Given as goal

abbrev pub invariant-loop-up : goal.invariant-loop-up
invariant-loop-up g l = (n : ℕ) → 6 < n + l.up → n ≤ 6 → first_over l.version n l.from l.to ≡ None
