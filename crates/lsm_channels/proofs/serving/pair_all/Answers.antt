use Rattle.std.proofs.Common.{refl, arith}
use Rattle.std.proofs.lemmas.List.Elements.{All-push, All-same}
use Rattle.lsm_channels.specs.Serving.{IsFresh}
use Rattle.lsm_channels.proofs.WireLaws.{all_front, all_last, paired_one_more}
use Rattle.lsm_channels.proofs.serving.pair_all.Goals as goal

pub loop-wire-preserved : goal.loop-wire-preserved
loop-wire-preserved g c =
    let fresh = IsFresh g.K.Invariant.keeps in
    let before = c.loop-wire.invariant in
    let taken = c.in-Some.ensures.cases in
    let other = c.in-Some-pop.ensures.cases in
    let longer = c.in-Ok.ensures.len in
    let wider = c.in-Ok.ensures.capacity in
    let room = before.room in
    let all = before.all in
    let each = before.each in
    record {
      wires = paired_one_more (λ c. c.wire) c.loop-wire.wires.items c.pop.new.self.items c.loop-wire.channels.items c.push.new.self.items c.in-Some.wire _ _
          before.wires c.in-Some.ensures.items c.in-Ok.ensures.items refl;
      left = all_front fresh c.loop-wire.sessions.items c.pop-in-Some.new.self.items c.in-Some-pop.session c.in-Some-pop.ensures.items before.left;
      fresh = All-same (λ c. fresh c.session) _ _ c.in-Ok.ensures.items (All-push (λ c. fresh c.session) _ _ before.fresh
          (all_last fresh c.loop-wire.sessions.items c.pop-in-Some.new.self.items c.in-Some-pop.session c.in-Some-pop.ensures.items before.left));
      each = omega arith;
      room = omega arith;
      all = omega arith;
    }
