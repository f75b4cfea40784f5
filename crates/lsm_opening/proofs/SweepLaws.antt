-- What is removed behind the lines.
use Rattle.std.proofs.Common.{inl, refl}
use Rattle.lsm_slots.specs.Slots.{Looked, Slotted}

pub looked_same : (s : Slotted) → Looked s s
looked_same s = record { board = refl; id = refl; slot = refl; version = refl; length = refl; each = λ i. inl refl }
