use Rattle.lsm_channels.proofs.KeepingLaws.{kept_on, known_by, quiet_same}
use Rattle.lsm_channels.proofs.compacting.aim.Goals as goal

pub invariant_of-deref_mut : goal.invariant_of-deref_mut
invariant_of-deref_mut g c = record {
  kept = kept_on g.S.Shelf.honest g.K.Invariant.keeps c.deref_mut.result.now.state c.aim_at.new.state c.requires.quiet (quiet_same g.S.Shelf.honest c.deref_mut.result.now.state c.aim_at.new.state c.aim_at.ensures.same) c.deref_mut.result.now.kept;
}

pub returns-clause-kept : goal.returns-clause-kept
returns-clause-kept g c = known_by g.K.Invariant.keeps c.deref_mut.result.now.state c.args.memory.now c.aim_at.new.memory c.aim_at.ensures.told c.deref_mut.result.now.kept
