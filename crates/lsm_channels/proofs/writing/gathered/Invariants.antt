use Rattle.std.proofs.Common.{◌≡◌, ◌++◌, length}
use Rattle.lsm_channels.specs.Writing.{writes_of}
use Rattle.lsm_channels.proofs.writing.gathered.Given as goal

abbrev pub invariant-writes : goal.invariant-writes
invariant-writes l = writes_of l.fn.writes ≡ l.buffer ++ writes_of l.writes

abbrev pub decreases-writes : goal.decreases-writes
decreases-writes l = length l.writes
