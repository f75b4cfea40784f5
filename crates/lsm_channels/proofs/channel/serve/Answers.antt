use Rattle.std.proofs.Common.{◌∙◌}
use Rattle.lsm_wire.proofs.CallerLemmas.{ended, one_more}
use Rattle.lsm_channels.specs.Serving.{Answers}
use Rattle.lsm_channels.proofs.channel.serve.Goals as goal

pub returns-then-not-goes_on-clause-served : goal.returns-then-not-goes_on-clause-served
returns-then-not-goes_on-clause-served g c =
    ended (Answers g.S.Shelf.honest (g.S.Shelf.refuses g.N.Naming.place) g.K.Invariant.keeps) c.args.channel.session c.turns.session c.take_turn-after.result.0 _ _ _ c.turns.invariant.so_far
    (rw c.if-not-goes_on.true at c.take_turn-after.ensures.turn)

pub turns-preserved : goal.turns-preserved
turns-preserved g c = record {
  so_far = one_more (Answers g.S.Shelf.honest (g.S.Shelf.refuses g.N.Naming.place) g.K.Invariant.keeps) c.args.channel.session c.turns.session c.take_turn-after.result.0 _ _ _ c.turns.invariant.so_far
      (rw c.if-not-goes_on.false at c.take_turn-after.ensures.turn);
  known = c.take_turn-after.ensures.known;
  same = c.take_turn-after.ensures.same ∙ c.turns.invariant.same;
}
