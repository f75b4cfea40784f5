use Rattle.std.proofs.Common.{◌≡◌, ◌+◌, ◌++◌, ◌≤◌, All, List, map, vec_capacity, vec_len}
use Rattle.std.specs.Prelude.{reverse}
use Rattle.lsm_store.specs.Workers.{IsWorkersEnd}
use Rattle.lsm_store.specs.Working.{AreReturned, Given, given_one}
use Rattle.lsm_store.proofs.workers.join_all.Given as goal

abbrev pub invariant-loop-thread : goal.invariant-loop-thread
invariant-loop-thread g l = record {
  ends : All (λ r. IsWorkersEnd g.S.Shelf.honest r.0) l.returned.items;
  returned : (done : List Given) × (done ++ reverse (map (λ t. given_one t.picks.value t.to_the_end t.given.value) l.threads.items)
      ≡ reverse (map (λ t. given_one t.picks.value t.to_the_end t.given.value) l.fn.threads.items))
      × AreReturned g.S.Shelf.honest (g.S.Shelf.refuses g.N.Naming.place) g.K.Invariant.keeps done l.returned.items;
  room : vec_len l.returned + vec_len l.threads ≤ vec_capacity l.returned;
  all : vec_len l.returned + vec_len l.threads ≡ vec_len l.fn.threads;
}

abbrev pub decreases-loop-thread : goal.decreases-loop-thread
decreases-loop-thread g l = vec_len l.threads
