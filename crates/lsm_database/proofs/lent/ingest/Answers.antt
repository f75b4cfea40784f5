use Rattle.std.proofs.Common.{subst, sym}
use Rattle.lsm_state.specs.Held.{Held}
use Rattle.lsm_store.specs.Background.{KeepsOut}
use Rattle.lsm_database.proofs.lent.ingest.Goals as goal

pub returns-in-Err-clause-refused : goal.returns-in-Err-clause-refused
returns-in-Err-clause-refused g c =
    let all = c.in-Err.ensures in
    subst (λ (h : Held). KeepsOut (g.S.Shelf.refuses g.N.Naming.place) c.args.state.now h c.args.batch.now c.in-Err.fault c.args.shelf.now c.ingest.new.shelf)
    (sym c.remember-in-Err.ensures.same)
    record {
      refusal = all.refused;
      asked = all.asked;
      event = all.event_err;
      history = all.history_err;
    }
