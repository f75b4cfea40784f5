use Rattle.std.proofs.Common.{refl}
use Rattle.lsm_store.proofs.store.Store.of.Goals as goal

-- the fact holds of the state that goes into the store
pub invariant_of-new : goal.invariant_of-new
invariant_of-new g c = record {
  kept = ∣ c.requires.kept c.take_ends-ends.new.state (
    record { end = c.args.state.slots.board; current = refl },
    c.take_ends-ends.ensures.same,
  ) ∣₁;
}
