use Rattle.std.proofs.Common.{◌≡◌, ◌-◌, ◌∷◌, Some, replicate}
use Rattle.lsm_pins.specs.SlotRecord.{slot_record, unused}
use Rattle.lsm_pins.proofs.board.first_records.Given as goal

abbrev pub invariant-loop-number : goal.invariant-loop-number
invariant-loop-number l = l.records.items ≡ slot_record (Some l.id) 0 ∷ replicate (l.number - 1) unused
