use Rattle.std.proofs.Common.{◌∙◌, ap, arith, length, sym}
use Rattle.std.proofs.lemmas.List.Elements.{All-same}
use Rattle.std.specs.Vec.Iter.{into_iter_items}
use Rattle.lsm_channels.specs.Serving.{IsFresh}
use Rattle.lsm_channels.proofs.WireLaws.{all_behind, all_first, made_all, made_none, made_one_more, one_less}
use Rattle.lsm_channels.proofs.serving.start_all.Goals as goal

pub loop-channel-init : goal.loop-channel-init
loop-channel-init g c =
    let rest = c.into_iter-channel-iterator.ensures.into_iter_gives.0 in
    let len = c.into_iter-channel-iterator.ensures.into_iter_gives.1 in
    let none = c.requires.none.0 in
    let empty = c.requires.none.1 in
    let room = c.requires.room in
    let counted = c.args.channels.ok.0 in
    record {
      given = made_none (λ c. c.wire) (λ t. t.given.value) c.args.threads.items (into_iter_items c.into_iter-channel-iterator.result) c.args.channels.items none rest;
      many = len ∙ counted ∙ sym (ap (λ xs. length xs) rest);
      fresh = All-same (λ c. IsFresh g.K.Invariant.keeps c.session) (into_iter_items c.into_iter-channel-iterator.result) c.args.channels.items rest c.requires.fresh;
      room = omega arith;
      all = omega arith;
    }

pub loop-channel-preserved : goal.loop-channel-preserved
loop-channel-preserved g c =
    let before = c.loop-channel.invariant in
    let step = c.in-Some.ensures.steps in
    let longer = c.in-Ok.ensures.len in
    let wider = c.in-Ok.ensures.capacity in
    let room = before.room in
    let all = before.all in
    let first = step.0 in
    let fewer = step.1 in
    record {
      given = made_one_more (λ c. c.wire) (λ t. t.given.value) c.loop-channel.threads.items c.push.new.self.items (into_iter_items c.loop-channel.channel-iterator) (into_iter_items c.next.new.self)
          c.in-Some.channel _ _ before.given first c.in-Ok.ensures.items c.start-thread.ensures.given;
      many = one_less (into_iter_items c.loop-channel.channel-iterator) (into_iter_items c.next.new.self) c.in-Some.channel _ _ first fewer before.many;
      fresh = all_behind (λ c. IsFresh g.K.Invariant.keeps c.session) (into_iter_items c.loop-channel.channel-iterator) (into_iter_items c.next.new.self) c.in-Some.channel first before.fresh;
      room = omega arith;
      all = omega arith;
    }

pub start-thread-requires-clause-fresh : goal.start-thread-requires-clause-fresh
start-thread-requires-clause-fresh g c κs within =
    all_first (λ k. IsFresh g.K.Invariant.keeps k.session) (into_iter_items c.loop-channel.channel-iterator) (into_iter_items c.next.new.self) c.in-Some.channel c.in-Some.ensures.steps.0 c.loop-channel.invariant.fresh

pub returns-clause-given : goal.returns-clause-given
returns-clause-given g c =
    made_all (λ c. c.wire) (λ t. t.given.value) c.loop-channel.threads.items (into_iter_items c.loop-channel.channel-iterator) _ (sym c.loop-channel.invariant.many ∙ c.in-None.ensures.steps.0)
    c.loop-channel.invariant.given
