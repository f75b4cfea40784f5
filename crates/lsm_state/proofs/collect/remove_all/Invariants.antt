use Rattle.std.proofs.Common.{◌≡◌, ◌≤◌, length, vec_capacity, vec_len}
use Rattle.lsm_state.specs.Collecting.{SameCounts}
use Rattle.lsm_state.proofs.Removing.{AreGone}
use Rattle.lsm_state.proofs.collect.remove_all.Given as goal

abbrev pub invariant-loop-number : goal.invariant-loop-number
invariant-loop-number g l = record {
  gone : AreGone l.numbers l.removed.items l.initial.shelf l.shelf l.number-index;
  counts : SameCounts l.initial.shelf l.shelf;
  len : vec_len l.removed ≡ l.number-index;
  room : length l.numbers ≤ vec_capacity l.removed;
}
