use Rattle.std.proofs.Common.{◌<◌, ◌+◌, ℕ, pos, true}
use Rattle.lsm_channels.proofs.wires.are_open.Given as goal

abbrev pub invariant-loop-number : goal.invariant-loop-number
invariant-loop-number g l = (n : ℕ) → n < l.number → g.D.Descriptors.says (pos (l.fn.first + n)) true
