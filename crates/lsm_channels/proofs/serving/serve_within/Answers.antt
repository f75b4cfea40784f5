use Rattle.std.proofs.Common.{◌∙◌, ap, map, sym}
use Rattle.std.specs.List.{list_all}
use Rattle.std.specs.Option.{is_some}
use Rattle.lsm_channels.specs.Serving.{End, IsServed, IsServedFirst, end}
use Rattle.lsm_channels.proofs.WireLaws.{served_all}
use Rattle.lsm_channels.proofs.serving.serve_within.Goals as goal

pub returns : goal.returns
returns g c =
    let seen : g.row.W.Denot → End = λ w. end (g.W.Wire.descriptor w) (g.W.Wire.happened w) in
    let refused = g.S.Shelf.refuses g.N.Naming.place in
    let back = c.join_all.ensures.back in
    served_all seen (IsServedFirst g.S.Shelf.honest refused g.K.Invariant.keeps) (IsServed g.S.Shelf.honest refused g.K.Invariant.keeps) c.args.first.wire c.serve_first-first.result
    (map (λ t. t.given.value) c.start_all-threads.result.items) (map (λ k. k.wire) c.args.others.items) c.args.wires.items c.push.new.self.items back.0 c.join_all.result.items c.are_made-are_served.result
    c.requires.none.2 c.in-Ok.ensures.items back.1 c.start_all-threads.ensures.given
    (back.2 ∙ sym (c.are_made-are_served.ensures ∙ ap (λ ts. list_all (λ t. is_some t.handle) ts) c.deref.ensures.value)) c.serve_first-first.ensures.same c.serve_first-first.ensures.served back.3
