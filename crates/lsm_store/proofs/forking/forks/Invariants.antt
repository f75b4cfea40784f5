use Rattle.std.proofs.Common.{◌≡◌, ◌≤◌, vec_len}
use Rattle.lsm_shelf.specs.Told.{ForkedTimes, forks_behind}
use Rattle.lsm_store.proofs.forking.forks.Given as goal

abbrev pub invariant-loop : goal.invariant-loop
invariant-loop g l = record {
  just : ForkedTimes l.counter l.fn.shelf l.shelf;
  few : l.counter ≤ l.fn.count;
  count : vec_len l.forks ≡ l.counter;
  new : l.forks.items ≡ forks_behind g.N.Naming.place l.fn.shelf.forks l.counter;
  faults : l.shelf.faults ≡ l.fn.shelf.faults;
  misses : l.shelf.misses ≡ l.fn.shelf.misses;
}
