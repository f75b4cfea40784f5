use Rattle.std.proofs.Common.{arith}
use Rattle.lsm_channels.specs.Serving.{End, IsFresh, IsServed, IsServedFirst, end}
use Rattle.lsm_channels.proofs.WireLaws.{all_front, all_last, served_wires}
use Rattle.lsm_channels.proofs.serving.serve_opened.Goals as goal

pub serve_beside-requires-clause-fresh : goal.serve_beside-requires-clause-fresh
serve_beside-requires-clause-fresh g c κs within =
    let all = c.pair_all-others.ensures.fresh in (
      all_last (λ k. IsFresh g.K.Invariant.keeps k.session) c.pair_all-others.result.items c.pop.new.self.items c.in-Some.first c.in-Some.ensures.items all,
      all_front (λ k. IsFresh g.K.Invariant.keeps k.session) c.pair_all-others.result.items c.pop.new.self.items c.in-Some.first c.in-Some.ensures.items all,
    )

pub returns-in-Ok-serve_beside-clause-served : goal.returns-in-Ok-serve_beside-clause-served
returns-in-Ok-serve_beside-clause-served g c =
    let seen : g.row.W.Denot → End = λ w. end (g.W.Wire.descriptor w) (g.W.Wire.happened w) in
    let refused = g.S.Shelf.refuses g.N.Naming.place in
    served_wires seen (λ k. k.wire) (IsServedFirst g.S.Shelf.honest refused g.K.Invariant.keeps) (IsServed g.S.Shelf.honest refused g.K.Invariant.keeps) c.pair_all-others.result.items
    c.pop.new.self.items c.in-Some.first c.args.wires.items _ c.in-Some.ensures.items c.pair_all-others.ensures.wires c.in-Ok-serve_beside.ensures.served

pub returns-in-Ok-serve_beside-clause-each : goal.returns-in-Ok-serve_beside-clause-each
returns-in-Ok-serve_beside-clause-each g c = let counted = c.args.wires.ok.0 in omega arith
