use Rattle.std.proofs.Common.{◌≡◌, ◌+◌, ◌++◌, ◌≤◌, List, Option, map, vec_capacity, vec_len}
use Rattle.std.specs.Prelude.{reverse}
use Rattle.std.specs.Prelude.{◌&&◌}
use Rattle.std.specs.List.{list_all}
use Rattle.std.specs.Option.{is_some, option_map}
use Rattle.lsm_channels.specs.Serving.{AreBack, End, IsServed, end}
use Rattle.lsm_channels.proofs.serving.join_all.Given as goal

abbrev pub invariant-loop-thread : goal.invariant-loop-thread
invariant-loop-thread g l =
    let seen : g.row.W.Denot → End = λ w. end (g.W.Wire.descriptor w) (g.W.Wire.happened w) in
    record {
      back : (rest : List (Option g.row.W.Denot)) × (done : List g.row.W.Denot) × (l.wires.items ≡ l.fn.wires.items ++ rest)
          × (done ++ reverse (map (λ t. t.given.value) l.threads.items) ≡ reverse (map (λ t. t.given.value) l.fn.threads.items))
          × ((list_all is_some rest && list_all (λ t. is_some t.handle) l.threads.items) ≡ list_all (λ t. is_some t.handle) l.fn.threads.items)
          × AreBack (IsServed g.S.Shelf.honest (g.S.Shelf.refuses g.N.Naming.place) g.K.Invariant.keeps) (map seen done) (map (option_map seen) rest);
      room : vec_len l.wires + vec_len l.threads ≤ vec_capacity l.wires;
    }

abbrev pub decreases-loop-thread : goal.decreases-loop-thread
decreases-loop-thread g l = vec_len l.threads
