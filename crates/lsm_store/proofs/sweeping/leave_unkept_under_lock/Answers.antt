use Rattle.lsm_store.proofs.CompactingLaws.{still}
use Rattle.lsm_store.proofs.sweeping.leave_unkept_under_lock.Goals as goal

pub invariant_of-deref_mut : goal.invariant_of-deref_mut
invariant_of-deref_mut g c = record {
  kept = still g.S.Shelf.honest g.K.Invariant.keeps c.requires.kept c.deref_mut.result.now.state c.leave_unkept.new.state c.leave_unkept.ensures.step c.deref_mut.result.now.kept;
}

pub returns : goal.returns
returns g c = record {
  left = record {
    found = c.leave_unkept.new.state;
    kept = still g.S.Shelf.honest g.K.Invariant.keeps c.requires.kept c.deref_mut.result.now.state c.leave_unkept.new.state c.leave_unkept.ensures.step c.deref_mut.result.now.kept;
    are = c.leave_unkept.ensures.left;
  };
}
