use Rattle.std.proofs.Common.{◌≡◌, ◌+◌, ◌≤◌, ◌++◌, All, length, map, vec_capacity, vec_len}
use Rattle.std.specs.Vec.Iter.{into_iter_items, into_iter_len}
use Rattle.lsm_channels.specs.Serving.{IsFresh}
use Rattle.lsm_channels.proofs.serving.start_all.Given as goal

abbrev pub invariant-loop-channel : goal.invariant-loop-channel
invariant-loop-channel g l =
    let left = l.channel-iterator in
    record {
      given : map (λ t. t.given.value) l.threads.items ++ map (λ c. c.wire) (into_iter_items left) ≡ map (λ c. c.wire) l.fn.channels.items;
      many : into_iter_len left ≡ length (into_iter_items left);
      fresh : All (λ c. IsFresh g.K.Invariant.keeps c.session) (into_iter_items left);
      room : vec_len l.threads + into_iter_len left ≤ vec_capacity l.threads;
      all : vec_len l.threads + into_iter_len left ≡ vec_len l.fn.channels;
    }
