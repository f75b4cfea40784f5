use Rattle.std.proofs.Common.{◌≡◌, ◌<◌, ℕ, Some}
use Rattle.std.specs.Prelude.{slice_get}
use Rattle.lsm_slots.specs.Slots.{Epoch}
use Rattle.lsm_slots.proofs.slots.Slots.pinned_slot.Given as goal

abbrev pub invariant-loop-slot : goal.invariant-loop-slot
invariant-loop-slot g l = (i : ℕ) (e : Epoch) → i < l.slot → slice_get l.self.epochs i ≡ Some (Some e) → e.id ≡ l.id → 0 < e.pins → ⊥
