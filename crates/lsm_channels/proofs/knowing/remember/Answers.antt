use Rattle.lsm_channels.proofs.KeepingLaws.{looked_on, look_same}
use Rattle.lsm_channels.proofs.knowing.remember.Goals as goal

pub invariant_of-deref_mut : goal.invariant_of-deref_mut
invariant_of-deref_mut g c = record {
  kept = looked_on g.K.Invariant.keeps c.deref_mut.result.now.state c.memory_of.new.state c.requires.looks (look_same c.deref_mut.result.now.state c.memory_of.new.state c.memory_of.ensures.same) c.deref_mut.result.now.kept;
}

pub returns : goal.returns
returns g c = record { kept = (c.deref_mut.result.now.state, c.deref_mut.result.now.kept, c.memory_of.ensures.seen) }
