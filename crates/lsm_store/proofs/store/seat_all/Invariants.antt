use Rattle.std.proofs.Common.{◌≡◌, ◌+◌, ◌≤◌, ◌++◌, All, map, vec_capacity, vec_len}
use Rattle.std.specs.Vec.Iter.{into_iter_items, into_iter_len}
use Rattle.lsm_pins.specs.Known.{Known}
use Rattle.lsm_store.specs.Readers.{IsFreeEnd, IsKnownBy, known_at, seated, unnumbered}
use Rattle.lsm_store.proofs.store.seat_all.Given as goal

abbrev pub invariant-loop-pinner : goal.invariant-loop-pinner
invariant-loop-pinner g l =
    let place = g.N.Naming.place in
    let left = l.pinner-iterator in
    record {
      pinners : All (IsFreeEnd g.N.Boarded.board) (into_iter_items left);
      caches : All (IsKnownBy l.fn.state place) l.caches.items;
      enough : into_iter_len left ≤ vec_len l.caches;
      room : vec_len l.readers + into_iter_len left ≤ vec_capacity l.readers;
      all : vec_len l.readers + into_iter_len left ≡ vec_len l.fn.pinners;
      readers : map unnumbered l.readers.items ++ map (seated l.fn.state place)
          (into_iter_items left) ≡ map (seated l.fn.state place) l.fn.pinners.items;
      same : known_at l.state place ≡ known_at l.fn.state place;
      rest : l.state ≡ record l.fn.state { slots = record l.fn.state.slots { board = l.state.slots.board } };
      others : (p : Known) → seated l.state place p ≡ seated l.fn.state place p;
    }
