use Rattle.lsm_channels.proofs.KeepingLaws.{kept_on, known_by}
use Rattle.lsm_channels.proofs.compacting.look.Goals as goal

pub invariant_of-deref_mut : goal.invariant_of-deref_mut
invariant_of-deref_mut g c = record {
  kept = kept_on g.S.Shelf.honest g.K.Invariant.keeps c.deref_mut.result.now.state c.is_settled.new.state c.requires.quiet c.is_settled.ensures.quiet c.deref_mut.result.now.kept;
}

pub returns-clause-kept : goal.returns-clause-kept
returns-clause-kept g c = known_by g.K.Invariant.keeps c.deref_mut.result.now.state c.args.memory.now c.is_settled.new.memory c.is_settled.ensures.told c.deref_mut.result.now.kept
