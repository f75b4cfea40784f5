use Rattle.lsm_channels.proofs.KeepingLaws.{looked_on}
use Rattle.lsm_channels.proofs.locked_version.LockedVersion.end.Goals as goal

pub invariant_of-deref_mut : goal.invariant_of-deref_mut
invariant_of-deref_mut g c = record {
  kept = looked_on g.K.Invariant.keeps c.deref_mut.result.now.state c.give_back.new.state c.requires.looks (record { rest = c.give_back.ensures.rest; machine = c.give_back.ensures.plain }) c.deref_mut.result.now.kept;
}
