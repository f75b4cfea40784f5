use Rattle.lsm_channels.proofs.KeepingLaws.{kept_released, known_by}
use Rattle.lsm_channels.proofs.snapshots.release_at.Goals as goal

pub invariant_of-deref_mut : goal.invariant_of-deref_mut
invariant_of-deref_mut g c = record {
  kept = kept_released g.K.Invariant.keeps c.deref_mut.result.now.state c.release_of.new.state c.args.number c.release_of.result c.requires.given_up c.release_of.ensures.ok c.release_of.ensures.err
      c.deref_mut.result.now.kept;
}

pub returns-clause-kept : goal.returns-clause-kept
returns-clause-kept g c = known_by g.K.Invariant.keeps c.deref_mut.result.now.state c.args.memory.now c.release_of.new.memory c.release_of.ensures.told c.deref_mut.result.now.kept
