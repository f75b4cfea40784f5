use Rattle.std.proofs.Common.{ℕ, ◌<◌, ◌≤◌}
use Rattle.lsm_picker.specs.Stairs.{IsStair}
use Rattle.lsm_picker.proofs.outermost.are_stairs.Given as goal

abbrev pub invariant-loop-level : goal.invariant-loop-level
invariant-loop-level g l = (n : ℕ) → 1 ≤ n → n < l.level → IsStair l.version l.rising n
