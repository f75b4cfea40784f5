use Rattle.lsm_channels.proofs.KeepingLaws.{looked_on, known_by, look_same}
use Rattle.lsm_channels.proofs.knowing.note.Goals as goal

pub invariant_of-deref_mut : goal.invariant_of-deref_mut
invariant_of-deref_mut g c = record {
  kept = looked_on g.K.Invariant.keeps c.deref_mut.result.now.state c.catch_up_behind.new.state c.requires.looks (look_same c.deref_mut.result.now.state c.catch_up_behind.new.state c.catch_up_behind.ensures.same) c.deref_mut.result.now.kept;
}

pub returns-clause-kept : goal.returns-clause-kept
returns-clause-kept g c = known_by g.K.Invariant.keeps c.deref_mut.result.now.state c.args.memory.now c.catch_up_behind.new.memory c.catch_up_behind.ensures.told c.deref_mut.result.now.kept
