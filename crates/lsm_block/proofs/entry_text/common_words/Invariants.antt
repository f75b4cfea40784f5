use Rattle.std.proofs.Common.{◌≡◌, ◌≤◌, ◌+◌, ◌-◌, length, drop}
use Rattle.lsm_block.specs.Building.{common}
use Rattle.lsm_block.proofs.entry_text.common_words.Given as goal

abbrev pub invariant-loop-i : goal.invariant-loop-i
invariant-loop-i l = (common l.a l.b ≡ l.i + common (drop l.i l.a) (drop l.i l.b)) × (l.i ≤ length l.a) × (l.i ≤ length l.b)

abbrev pub decreases-loop-i : goal.decreases-loop-i
decreases-loop-i l = length l.a - l.i
