use Rattle.std.proofs.Common.{◌≡◌, ◌+◌, ◌≤◌, ◌++◌, map, vec_capacity, vec_len}
use Rattle.std.specs.Vec.Iter.{into_iter_items, into_iter_len}
use Rattle.lsm_store.proofs.workers.ends_of.Given as goal

abbrev pub invariant-loop-back : goal.invariant-loop-back
invariant-loop-back g l =
    let left = l.back-iterator in
    record {
      room : vec_len l.ends + into_iter_len left ≤ vec_capacity l.ends;
      wide : vec_capacity l.fn.ends ≤ vec_capacity l.ends;
      all : vec_len l.ends + into_iter_len left ≡ vec_len l.fn.returned;
      ends : l.ends.items ++ map (λ r. r.0) (into_iter_items left) ≡ map (λ r. r.0) l.fn.returned.items;
    }
