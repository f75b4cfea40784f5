use Rattle.std.proofs.Common.{List, ◌++◌, ◌∷◌, [], Some, map, ap, sym, ◌∙◌, arith}
use Rattle.std.proofs.lemmas.List.{append-nil, map-append, nil_from_length}
use Rattle.std.proofs.lemmas.List.Elements.{All-pop}
use Rattle.lsm_shelf.specs.Told.{fork_at}
use Rattle.std.specs.Vec.Iter.{into_iter_items}
use Rattle.lsm_pins.specs.Known.{Known}
use Rattle.lsm_state.specs.Held.{Held}
use Rattle.lsm_store.specs.Readers.{IsFreeEnd, IsKnownBy, KnownVersion, Learnt, seated, unnumbered}
use Rattle.lsm_store.proofs.SeatLaws.{all_popped, all_rest, one_more}
use Rattle.lsm_store.proofs.store.seat_all.Goals as goal

-- src/store.rt:77:5
pub loop-pinner-preserved : goal.loop-pinner-preserved
loop-pinner-preserved g c =
    let place = g.N.Naming.place in
    let state = c.args.state.now in
    let before = c.loop-pinner.invariant in
    let pinner = c.in-Some.pinner in
    let step = c.in-Some.ensures.steps in
    let left = c.in-Some-pop.ensures.cases in
    let longer = c.in-Ok.ensures.len in
    let wider = c.in-Ok.ensures.capacity in
    let enough = before.enough in
    let room = before.room in
    let all = before.all in
    let first = step.0 in
    let fewer = step.1 in
    record {
      pinners = all_rest (IsFreeEnd g.N.Boarded.board) (into_iter_items c.loop-pinner.pinner-iterator) (into_iter_items c.next.new.self) pinner first before.pinners;
      caches = all_popped (IsKnownBy state place) c.loop-pinner.caches.items c.pop.new.self.items
          (Some c.in-Some-pop.cache) c.in-Some-pop.ensures.items before.caches;
      enough = omega arith;
      room = omega arith;
      all = omega arith;
      readers = one_more (seated state place) (map unnumbered c.loop-pinner.readers.items)
          (map unnumbered c.push.new.self.items) (into_iter_items c.loop-pinner.pinner-iterator)
          (into_iter_items c.next.new.self) pinner _ before.readers first
          (ap (λ (rs : List Learnt). map unnumbered rs) c.in-Ok.ensures.items
          ∙ map-append unnumbered c.loop-pinner.readers.items (c.seat-reader.result ∷ [])
          ∙ ap (λ (r : Learnt). map unnumbered c.loop-pinner.readers.items ++ r ∷ [])
          (c.seat-reader.ensures.seated ∙ before.others pinner));
      same = c.seat-reader.ensures.same ∙ before.same;
      rest = c.seat-reader.ensures.rest ∙ ap (λ (h : Held). record h { slots = record h.slots { board = c.seat-reader.new.state.slots.board } }) before.rest;
      others = λ (p : Known). c.seat-reader.ensures.others p ∙ before.others p;
    }

pub seat-reader-requires-clause-cache : goal.seat-reader-requires-clause-cache
seat-reader-requires-clause-cache g c κs within =
    let before = c.loop-pinner.invariant in
    let known = (All-pop (IsKnownBy c.args.state.now g.N.Naming.place) c.loop-pinner.caches.items
    c.pop.new.self.items (Some c.in-Some-pop.cache) c.in-Some-pop.ensures.items before.caches).1
    in (
      known.0,
      known.1 ∙ ap
          (λ (d : KnownVersion). record d { told = fork_at g.N.Naming.place known.0 })
          (sym before.same),
    )

pub returns-clause-readers : goal.returns-clause-readers
returns-clause-readers g c =
    let none = nil_from_length (into_iter_items c.loop-pinner.pinner-iterator)
    (sym c.loop-pinner.pinner-iterator.rest.ok.0 ∙ c.in-None.ensures.steps.0) in
    let made = map unnumbered c.loop-pinner.readers.items in
    let seats = map (seated c.args.state.now g.N.Naming.place) in
    sym (append-nil made) ∙ ap (λ (left : List Known). made ++ seats left) (sym none)
    ∙ c.loop-pinner.invariant.readers
