-- What the publisher keeps of each slot. This project's rule.
use Rattle.std.specs.Prelude.{◌≡◌, ℕ, ◌+◌, ◌-◌, Option, Some, None, List, ◌∷◌, map, replicate}
use Rattle.std.specs.Prelude.{slice_get, slice_index_or, slice_set}
use Rattle.lsm_pins.specs.declared.slot_record.SlotRecord.{SlotRecord}

abbrev pub slot_record : Option ℕ → ℕ → SlotRecord
slot_record id total = record { id = id; total = total }

-- a slot that no version has had
abbrev pub unused : SlotRecord
unused = slot_record None 0

abbrev pub record_at : List SlotRecord → ℕ → SlotRecord
record_at records slot = slice_index_or records slot unused

-- the id of the version in each slot, none where the slot is free
abbrev pub ids_of : List SlotRecord → List (Option ℕ)
ids_of records = map (λ r. r.id) records

-- the slot has this id, so it is not free
pub record IsInUse (records : List SlotRecord) (slot id : ℕ) : Type 0 where
  pub total : ℕ
  pub is : slice_get records slot ≡ Some (slot_record (Some id) total)

-- a new board: its first slot has the id, the others are free
abbrev pub first_records : ℕ → ℕ → List SlotRecord
first_records slots id = slot_record (Some id) 0 ∷ replicate (slots - 1) unused

-- the slot is free from now on
abbrev pub freed_records : List SlotRecord → ℕ → List SlotRecord
freed_records records slot = slice_set records slot (record (record_at records slot) { id = None })

-- the slot `old` retires with `count` more pins in its total, and the slot `new` has the id
abbrev pub published_records : List SlotRecord → ℕ → ℕ → ℕ → ℕ → List SlotRecord
published_records records old count new id =
    slice_set (slice_set records old
    (record (record_at records old) { total = (record_at records old).total + count })) new
    (record (record_at records new) { id = Some id })
