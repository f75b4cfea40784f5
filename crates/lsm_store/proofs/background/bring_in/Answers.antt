use Rattle.std.proofs.Common.{inl, subst, sym}
use Rattle.lsm_state.specs.Held.{Held}
use Rattle.lsm_store.specs.Background.{IsIngestStep}
use Rattle.lsm_store.proofs.background.bring_in.Goals as goal

pub returns-in-Ok-clause-step : goal.returns-in-Ok-clause-step
returns-in-Ok-clause-step g c =
    let all = c.in-Ok.ensures in
    subst (λ (h : Held). IsIngestStep (g.S.Shelf.refuses g.N.Naming.place) c.args.batch.now c.args.state.now h)
    (sym c.remember.ensures.same)
    (inl (
      c.in-Ok.came,
      c.args.shelf.now,
      c.ingest.new.shelf,
      record {
        welcome = all.welcome;
        ingests = all.ok;
        event = all.event;
        entries = all.entries;
        history = all.history;
        counts = all.counts;
      },
    ))
