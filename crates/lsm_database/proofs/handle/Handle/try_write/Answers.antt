use Rattle.std.proofs.Common.{refl}
use Rattle.std.proofs.Math.Logic.{∥∥₁_map}
use Rattle.std.proofs.lemmas.Result.{IfErr-weaker, IfOk-weaker}
use Rattle.lsm_database.proofs.KeepingLaws.{came_in, come_ingest, step_of}
use Rattle.lsm_database.proofs.handle.Handle.try_write.Goals as goal

pub returns-clause-came : goal.returns-clause-came
returns-clause-came g c = IfOk-weaker c.bring_in-came.result _ _
    (λ r came. record {
      was = c.deref_mut.result.now.state;
      is = c.bring_in-came.new.state;
      later = c.bring_in-came.ensures.later;
      came = came;
      known = c.bring_in-came.ensures.known;
      read = refl;
    })
    c.bring_in-came.ensures.came

pub returns-clause-refused : goal.returns-clause-refused
returns-clause-refused g c = IfErr-weaker c.bring_in-came.result _ _
    (λ e out. record {
      was = c.deref_mut.result.now.state;
      is = c.bring_in-came.new.state;
      later = c.bring_in-came.ensures.later;
      refused = out;
      known = c.bring_in-came.ensures.known;
      read = refl;
    })
    c.bring_in-came.ensures.refused

pub invariant_of-deref_mut : goal.invariant_of-deref_mut
invariant_of-deref_mut g c =
    let Refused = g.S.Shelf.refuses g.N.Naming.place in
    let was = c.deref_mut.result.now.state in
    let is = c.bring_in-came.new.state in
    let tried = step_of Refused was is c.args.batch.now c.args.self.now.shelf
    c.bring_in-came.new.shelf c.bring_in-came.result c.bring_in-came.ensures.came
    c.bring_in-came.ensures.refused in
    record {
      kept = ∥∥₁_map c.deref_mut.result.now.kept
          (come_ingest Refused g.S.Shelf.honest g.A.Asking.asks g.A.Asking.found c.args.batch.now
          c.requires.asked was is tried);
    }

pub invariant_of-self : goal.invariant_of-self
invariant_of-self g c =
    let Refused = g.S.Shelf.refuses g.N.Naming.place in
    let was = c.deref_mut.result.now.state in
    let is = c.bring_in-came.new.state in
    let tried = step_of Refused was is c.args.batch.now c.args.self.now.shelf
    c.bring_in-came.new.shelf c.bring_in-came.result c.bring_in-came.ensures.came
    c.bring_in-came.ensures.refused in
    record {
      asked = came_in Refused g.S.Shelf.honest g.A.Asking.asks g.A.Asking.found is _
          c.bring_in-came.ensures.known
          (∥∥₁_map c.deref_mut.result.now.kept
          (come_ingest Refused g.S.Shelf.honest g.A.Asking.asks g.A.Asking.found c.args.batch.now
          c.requires.asked was is tried));
    }
