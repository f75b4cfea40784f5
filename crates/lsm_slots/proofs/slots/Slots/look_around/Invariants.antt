use Rattle.lsm_slots.proofs.SlotLaws.{AreGone}
use Rattle.lsm_slots.proofs.slots.Slots.look_around.Given as goal

abbrev pub invariant-loop-slot : goal.invariant-loop-slot
invariant-loop-slot g l = AreGone l.initial.self l.self l.slot
