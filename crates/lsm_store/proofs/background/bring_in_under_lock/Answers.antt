use Rattle.std.proofs.Math.Logic.{∥∥₁_map}
use Rattle.std.specs.Prelude.{◌≡◌, List}
use Rattle.lsm_codec.specs.Entries.{Entry}
use Rattle.lsm_state.specs.declared.ingest.Ingested.{Ingested}
use Rattle.lsm_state.specs.declared.state_fault.StateFault.{StateFault}
use Rattle.lsm_store.specs.Background.{BringsIn, IsBroughtIn, IsKeptOut, KeepsOut}
use Rattle.lsm_store.proofs.BackgroundLaws.{err_then, ok_both}
use Rattle.lsm_store.proofs.background.bring_in_under_lock.Goals as goal

pub invariant_of-deref_mut : goal.invariant_of-deref_mut
invariant_of-deref_mut g c = record {
  kept = ∥∥₁_map c.deref_mut.result.now.kept (c.requires.kept c.deref_mut.result.now.state c.bring_in.new.state c.bring_in.ensures.step);
}

pub returns-clause-ok : goal.returns-clause-ok
returns-clause-ok g c =
    let was = c.deref_mut.result.now.state in
    let is = c.bring_in.new.state in
    let ws = c.args.batch.now in
    let t = c.args.shelf.now in
    let u = c.bring_in.new.shelf in
    ok_both (λ (r : Ingested × List Entry). BringsIn was is ws r.0 t u) (λ (r : Ingested × List Entry). r.1 ≡ is.history)
    (λ (r : Ingested × List Entry). IsBroughtIn g.K.Invariant.keeps ws r t u) c.bring_in.result
    (λ r did remembered. (was, is, c.deref_mut.result.now.kept, did, remembered)) c.bring_in.ensures.ok c.bring_in.ensures.memory

pub returns-clause-refused : goal.returns-clause-refused
returns-clause-refused g c =
    let was = c.deref_mut.result.now.state in
    let is = c.bring_in.new.state in
    let ws = c.args.batch.now in
    let t = c.args.shelf.now in
    let u = c.bring_in.new.shelf in
    let Refused = g.S.Shelf.refuses g.N.Naming.place in
    err_then (λ (e : StateFault). KeepsOut Refused was is ws e t u) (λ (e : StateFault). IsKeptOut Refused g.K.Invariant.keeps ws e t u) c.bring_in.result
    (λ e did. (was, is, c.deref_mut.result.now.kept, did)) c.bring_in.ensures.refused
