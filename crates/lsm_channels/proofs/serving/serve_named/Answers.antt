use Rattle.std.proofs.Common.{inl, inr, refl}
use Rattle.lsm_channels.proofs.KeepingLaws.{come_found, come_quiet, come_requests}
use Rattle.lsm_channels.proofs.WireLaws.{told_for}
use Rattle.lsm_channels.specs.Serving.{End, end}
use Rattle.lsm_channels.proofs.serving.serve_named.Goals as goal

pub serve_state-requires-clause-kept : goal.serve_state-requires-clause-kept
serve_state-requires-clause-kept g c κs within = come_found g.S.Shelf.honest g.W.Wire.gives _

pub serve_state-requires-clause-quiet : goal.serve_state-requires-clause-quiet
serve_state-requires-clause-quiet g c κs within = come_quiet g.S.Shelf.honest g.W.Wire.gives _

pub serve_state-requires-clause-asked : goal.serve_state-requires-clause-asked
serve_state-requires-clause-asked g c κs within = come_requests g.S.Shelf.honest (g.S.Shelf.refuses g.N.Naming.place) g.W.Wire.gives _

pub returns-in-Err-clause-refused : goal.returns-in-Err-clause-refused
returns-in-Err-clause-refused g c = inl c.in-Err.ensures.refused

pub returns-in-Err-clause-back : goal.returns-in-Err-clause-back
returns-in-Err-clause-back g c = inl refl

pub returns-in-Ok-serve_state-clause-served : goal.returns-in-Ok-serve_state-clause-served
returns-in-Ok-serve_state-clause-served g c =
    let seen : g.row.W.Denot → End = λ w. end (g.W.Wire.descriptor w) (g.W.Wire.happened w) in
    record {
      found = c.in-Ok.state;
      told = c.start_with.new.shelf;
      started = c.in-Ok.ensures.started;
      forked = told_for seen c.args.wires.items c.args.plan.workers _ _ c.in-Ok-serve_state.ensures.told;
      served = c.in-Ok-serve_state.ensures.served;
    }

pub returns-in-Err-serve_state-clause-refused : goal.returns-in-Err-serve_state-clause-refused
returns-in-Err-serve_state-clause-refused g c = inr (c.in-Ok.state, c.start_with.new.shelf, c.in-Ok.ensures.started, c.serve_state.ensures.forked, c.in-Err-serve_state.ensures.fault)
