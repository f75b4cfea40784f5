use Rattle.std.proofs.Common.{◌≡◌}
use Rattle.lsm_wire.proofs.CallerLemmas.{SoFar}
use Rattle.lsm_channels.specs.Keeping.{IsKnown}
use Rattle.lsm_channels.specs.Serving.{Answers}
use Rattle.lsm_channels.proofs.channel.serve.Given as goal

abbrev pub invariant-turns : goal.invariant-turns
invariant-turns g l = record {
  so_far : SoFar (Answers g.S.Shelf.honest (g.S.Shelf.refuses g.N.Naming.place) g.K.Invariant.keeps) l.fn.channel.session l.session (g.W.Wire.happened l.fn.channel.wire) (g.W.Wire.happened l.wire);
  known : IsKnown g.K.Invariant.keeps l.session.known;
  same : g.W.Wire.descriptor l.wire ≡ g.W.Wire.descriptor l.fn.channel.wire;
}
