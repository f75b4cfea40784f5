use Rattle.std.proofs.Common.{◌≡◌, ◌+◌, ◌++◌, ◌≤◌, map, vec_capacity, vec_len}
use Rattle.std.specs.Prelude.{reverse}
use Rattle.lsm_store.specs.Working.{given_each, given_one}
use Rattle.lsm_store.proofs.workers.start_all.Given as goal

abbrev pub invariant-loop-shelf : goal.invariant-loop-shelf
invariant-loop-shelf g l = record {
  given : given_each l.picks l.bell.to_the_end l.shelves.items ++ reverse (map (λ t. given_one t.picks.value t.to_the_end t.given.value) l.threads.items)
      ≡ given_each l.picks l.bell.to_the_end l.fn.shelves.items;
  room : vec_len l.threads + vec_len l.shelves ≤ vec_capacity l.threads;
  all : vec_len l.threads + vec_len l.shelves ≡ vec_len l.fn.shelves;
}

abbrev pub decreases-loop-shelf : goal.decreases-loop-shelf
decreases-loop-shelf g l = vec_len l.shelves
