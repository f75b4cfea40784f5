use Rattle.std.proofs.Common.{◌++◌, ◌∷◌, [], ◌∙◌, refl, sym, ap, append_assoc, append-nil, arith}
use Rattle.std.specs.Prelude.{List, Option}
use Rattle.std.specs.Option.{is_some}
use Rattle.lsm_channels.specs.Serving.{End, IsServed, end}
use Rattle.lsm_channels.proofs.WireLaws.{Relates, back_of, back_one_more, joined_made, joined_one_more}
use Rattle.lsm_channels.proofs.serving.join_all.Goals as goal

pub loop-thread-init : goal.loop-thread-init
loop-thread-init g c =
    let one = c.requires.one in
    let room = c.requires.room in
    record { back = ([], [], sym (append-nil c.args.wires.items), refl, refl, tt); room = omega arith }

pub loop-thread-preserved : goal.loop-thread-preserved
loop-thread-preserved g c =
    let seen : g.row.W.Denot → End = λ w. end (g.W.Wire.descriptor w) (g.W.Wire.happened w) in
    let serves : Relates = IsServed g.S.Shelf.honest (g.S.Shelf.refuses g.N.Naming.place) g.K.Invariant.keeps in
    let before = c.loop-thread.invariant in
    let back = before.back in
    let taken = c.in-Some.ensures.cases in
    let longer = c.in-Ok.ensures.len in
    let wider = c.in-Ok.ensures.capacity in
    let room = before.room in
    let wire = c.join-wire.result in
    let given = c.in-Some.thread.given.value in
    record {
      back = (
        back.0 ++ wire ∷ [],
        back.1 ++ given ∷ [],
        c.in-Ok.ensures.items ∙ ap (λ (ws : List (Option g.row.W.Denot)). ws ++ wire ∷ []) back.2 ∙ append_assoc c.args.wires.items back.0 (wire ∷ []),
        joined_one_more (λ t. t.given.value) back.1 c.loop-thread.threads.items c.pop.new.self.items c.in-Some.thread _ back.3 c.in-Some.ensures.items,
        joined_made (λ t. is_some t.handle) is_some back.0 c.loop-thread.threads.items c.pop.new.self.items c.in-Some.thread wire _ back.4 c.in-Some.ensures.items c.join-wire.ensures.made,
        back_one_more seen serves back.1 back.0 given wire back.5 (back_of seen serves given wire c.join-wire.ensures.same c.join-wire.ensures.served),
      );
      room = omega arith;
    }
