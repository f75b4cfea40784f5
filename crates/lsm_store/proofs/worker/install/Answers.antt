use Rattle.lsm_state.specs.declared.state_fault.StateFault.{StateFault}
use Rattle.lsm_store.specs.Working.{IsTaken, IsUntaken, LeavesOut, TakesIn}
use Rattle.lsm_store.proofs.BackgroundLaws.{err_then}
use Rattle.lsm_store.proofs.CompactingLaws.{still}
use Rattle.lsm_store.proofs.WorkingLaws.{on_ok_then}
use Rattle.lsm_store.proofs.worker.install.Goals as goal

pub invariant_of-deref_mut : goal.invariant_of-deref_mut
invariant_of-deref_mut g c = record {
  kept = still g.S.Shelf.honest g.K.Invariant.keeps c.requires.kept c.deref_mut.result.now.state c.put_in.new.state c.put_in.ensures.step c.deref_mut.result.now.kept;
}

pub returns-clause-taken : goal.returns-clause-taken
returns-clause-taken g c =
    let was = c.deref_mut.result.now.state in
    let is = c.put_in.new.state in
    let t = c.args.shelf.now in
    let u = c.put_in.new.shelf in
    on_ok_then c.put_in.result (TakesIn was is c.args.done t u) (IsTaken g.K.Invariant.keeps c.args.done t u)
    (λ takes. record { old = was; new = is; kept = c.deref_mut.result.now.kept; takes = takes }) c.put_in.ensures.takes

pub returns-clause-untaken : goal.returns-clause-untaken
returns-clause-untaken g c =
    let was = c.deref_mut.result.now.state in
    let is = c.put_in.new.state in
    let t = c.args.shelf.now in
    let u = c.put_in.new.shelf in
    let Refused = g.S.Shelf.refuses g.N.Naming.place in
    err_then (λ (e : StateFault). LeavesOut Refused was is c.args.done e t u) (λ (e : StateFault). IsUntaken Refused g.K.Invariant.keeps c.args.done e t u) c.put_in.result
    (λ e leaves. record { old = was; new = is; kept = c.deref_mut.result.now.kept; leaves = leaves }) c.put_in.ensures.leaves
