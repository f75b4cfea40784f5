use Rattle.std.proofs.Common.{◌≡◌, ◌-◌, ◌≤◌, ◌<◌, ℕ, true, false, length, get_or}
use Rattle.lsm_table.specs.Registry.{Table}
use Rattle.lsm_version.specs.Reads.{IsRising, reaches}
use Rattle.lsm_version.proofs.user_range.first_reaching.Given as goal

abbrev pub invariant-loop-low : goal.invariant-loop-low
invariant-loop-low g l = record {
  inside : l.high ≤ length l.level;
  below : l.low ≤ l.high;
  before : IsRising l.level → (i : ℕ) (d : Table) → i < l.low → reaches (get_or l.level i d) l.user ≡ false;
  after : IsRising l.level → (i : ℕ) (d : Table) → l.high ≤ i → i < length l.level → reaches (get_or l.level i d) l.user ≡ true;
}

abbrev pub decreases-loop-low : goal.decreases-loop-low
decreases-loop-low g l = l.high - l.low
