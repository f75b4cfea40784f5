use Rattle.std.proofs.Common.{◌≡◌, ℕ, take}
use Rattle.lsm_codec.specs.Lists.{Has}
use Rattle.lsm_slots.proofs.snapshots.find.Given as goal

abbrev pub invariant-loop-one : goal.invariant-loop-one
invariant-loop-one l = (p : ℕ × ℕ) → Has (take l.one-index l.taken) p → p.0 ≡ l.id → ⊥
