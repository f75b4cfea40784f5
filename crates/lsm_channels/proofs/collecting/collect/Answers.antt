use Rattle.lsm_channels.proofs.KeepingLaws.{looked_on, known_by}
use Rattle.lsm_channels.proofs.collecting.collect.Goals as goal

pub invariant_of-deref_mut : goal.invariant_of-deref_mut
invariant_of-deref_mut g c = record {
  kept = looked_on g.K.Invariant.keeps c.deref_mut.result.now.state c.collect_of.new.state c.requires.looks c.collect_of.ensures.look c.deref_mut.result.now.kept;
}

pub returns-clause-kept : goal.returns-clause-kept
returns-clause-kept g c = known_by g.K.Invariant.keeps c.deref_mut.result.now.state c.args.memory.now c.collect_of.new.memory c.collect_of.ensures.told c.deref_mut.result.now.kept
