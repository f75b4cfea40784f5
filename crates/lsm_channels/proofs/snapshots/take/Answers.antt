use Rattle.std.proofs.Common.{ℕ}
use Rattle.lsm_channels.specs.Snapshots.{Notes}
use Rattle.lsm_channels.proofs.KeepingLaws.{kept_taken, known_by}
use Rattle.lsm_channels.proofs.snapshots.take.Goals as goal

pub invariant_of-deref_mut : goal.invariant_of-deref_mut
invariant_of-deref_mut g c = record {
  kept = kept_taken g.K.Invariant.keeps (λ (r : ℕ × ℕ). Notes c.deref_mut.result.now.state r.0 r.1 c.args.taken.now.items c.take_of.new.taken.items) c.deref_mut.result.now.state c.take_of.new.state
      c.take_of.result c.requires.taken c.take_of.ensures.ok c.take_of.ensures.err c.deref_mut.result.now.kept;
}

pub returns-clause-kept : goal.returns-clause-kept
returns-clause-kept g c = known_by g.K.Invariant.keeps c.deref_mut.result.now.state c.args.memory.now c.take_of.new.memory c.take_of.ensures.told c.deref_mut.result.now.kept
