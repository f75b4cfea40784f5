use Rattle.std.proofs.Common.{◌≡◌, ◌++◌, take}
use Rattle.lsm_slots.specs.Slots.{numbers_held}
use Rattle.lsm_slots.proofs.slot_pins.push_slots.Given as goal

abbrev pub invariant-loop-epoch : goal.invariant-loop-epoch
invariant-loop-epoch g l = l.numbers.items ≡ l.initial.numbers.items ++ numbers_held (take l.epoch-index l.epochs)
