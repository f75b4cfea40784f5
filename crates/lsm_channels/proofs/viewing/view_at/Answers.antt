use Rattle.lsm_channels.proofs.KeepingLaws.{looked_on, known_by}
use Rattle.lsm_channels.proofs.viewing.view_at.Goals as goal

pub invariant_of-deref_mut : goal.invariant_of-deref_mut
invariant_of-deref_mut g c = record {
  kept = looked_on g.K.Invariant.keeps c.deref_mut.result.now.state c.view_of.new.state c.requires.looks (record { rest = c.view_of.ensures.rest; machine = c.view_of.ensures.plain }) c.deref_mut.result.now.kept;
}

pub returns-clause-kept : goal.returns-clause-kept
returns-clause-kept g c = known_by g.K.Invariant.keeps c.deref_mut.result.now.state c.args.memory.now c.view_of.new.memory c.view_of.ensures.told c.deref_mut.result.now.kept
