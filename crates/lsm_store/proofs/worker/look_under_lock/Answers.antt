use Rattle.std.proofs.lemmas.Result.{IfOk-weaker}
use Rattle.lsm_store.specs.Working.{IsLookRefused, IsStoppedBy}
use Rattle.lsm_store.specs.Workers.{IsOfTurn}
use Rattle.lsm_store.specs.declared.worker_fault.WorkerFault.{WorkerFault}
use Rattle.lsm_store.proofs.BackgroundLaws.{err_then}
use Rattle.lsm_store.proofs.CompactingLaws.{still}
use Rattle.lsm_store.proofs.WorkingLaws.{looked_under, refused_turn, refused_under}
use Rattle.lsm_store.proofs.worker.look_under_lock.Goals as goal

pub invariant_of-deref_mut : goal.invariant_of-deref_mut
invariant_of-deref_mut g c = record {
  kept = still g.S.Shelf.honest g.K.Invariant.keeps c.requires.kept c.deref_mut.result.now.state c.look.new.state c.look.ensures.step c.deref_mut.result.now.kept;
}

pub returns-clause-looks : goal.returns-clause-looks
returns-clause-looks g c =
    let was = c.deref_mut.result.now in
    IfOk-weaker c.look.result _ _
    (λ l looked. looked_under g.S.Shelf.honest g.K.Invariant.keeps c.args.picks.now was.state c.look.new.state l c.args.shelf.now c.look.new.shelf was.kept looked) c.look.ensures.looks

pub returns-clause-stopped : goal.returns-clause-stopped
returns-clause-stopped g c =
    let Honest = g.S.Shelf.honest in
    let Refused = g.S.Shelf.refuses g.N.Naming.place in
    let picks = c.args.picks.now in
    let was = c.deref_mut.result.now in
    let is = c.look.new.state in
    let t = c.args.shelf.now in
    let u = c.look.new.shelf in
    err_then (λ (e : WorkerFault). IsLookRefused Honest Refused picks was.state is e t u) (λ (e : WorkerFault). IsStoppedBy Honest Refused g.K.Invariant.keeps picks e t u) c.look.result
    (λ e refused. refused_under Honest Refused g.K.Invariant.keeps picks was.state is e t u was.kept refused) c.look.ensures.refused

pub returns-clause-refused : goal.returns-clause-refused
returns-clause-refused g c =
    let Honest = g.S.Shelf.honest in
    let Refused = g.S.Shelf.refuses g.N.Naming.place in
    let picks = c.args.picks.now in
    let was = c.deref_mut.result.now.state in
    let is = c.look.new.state in
    let t = c.args.shelf.now in
    let u = c.look.new.shelf in
    err_then (λ (e : WorkerFault). IsLookRefused Honest Refused picks was is e t u) (λ (e : WorkerFault). IsOfTurn Honest e) c.look.result
    (λ e refused. refused_turn Honest Refused picks was is e t u refused) c.look.ensures.refused
