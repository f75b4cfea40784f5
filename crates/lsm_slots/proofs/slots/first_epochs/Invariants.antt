use Rattle.std.proofs.Common.{◌≡◌, ◌-◌, ◌∷◌, Some, None, replicate}
use Rattle.std.specs.Arc.{arc_value}
use Rattle.lsm_slots.proofs.slots.first_epochs.Given as goal

abbrev pub invariant-loop-slot : goal.invariant-loop-slot
invariant-loop-slot g l = l.epochs.items ≡ Some record { id = l.id; version = arc_value l.fn.version; pins = 0 } ∷ replicate (l.slot - 1) None
