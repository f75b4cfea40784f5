use Rattle.std.proofs.Common.{take, ◌≤◌}
use Rattle.lsm_import.specs.Standing.{AreBelow}
use Rattle.lsm_import.proofs.standing.number_beyond.Given as goal

-- at least the first one, and above the numbers so far
abbrev pub invariant-loop-number : goal.invariant-loop-number
invariant-loop-number l = record {
  from : l.from ≤ l.next;
  below : AreBelow (take l.number-index l.numbers) l.next;
}
