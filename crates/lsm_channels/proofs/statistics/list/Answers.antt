use Rattle.lsm_channels.proofs.KeepingLaws.{looked_on, known_by, look_same}
use Rattle.lsm_channels.proofs.statistics.list.Goals as goal

pub invariant_of-deref_mut : goal.invariant_of-deref_mut
invariant_of-deref_mut g c = record {
  kept = looked_on g.K.Invariant.keeps c.deref_mut.result.now.state c.files_of.new.state c.requires.looks (look_same c.deref_mut.result.now.state c.files_of.new.state c.files_of.ensures.same) c.deref_mut.result.now.kept;
}

pub returns-clause-kept : goal.returns-clause-kept
returns-clause-kept g c = known_by g.K.Invariant.keeps c.deref_mut.result.now.state c.args.memory.now c.files_of.new.memory c.files_of.ensures.told c.deref_mut.result.now.kept
