-- What each kind of step tells the one who made it: the view after it, and what follows of the word
-- found. This project's rule.
use Rattle.std.specs.Prelude.{◌≡◌, ℕ, ◌+◌, ◌-◌, ◌^◌, ◌<◌, ◌≤◌}
use Rattle.atomic_table.specs.Table.{Me, Step}
use Rattle.lsm_pins.specs.declared.view.View.{View}
use Rattle.lsm_pins.specs.Head.{slot_in, id_in, count_in}
use Rattle.lsm_pins.specs.SlotRecord.{record_at}
use Rattle.lsm_pins.specs.View.{pinned_view, unpinned_view, learnt_view, looked_view}
use Rattle.lsm_pins.specs.View.{published_view}
use Rattle.lsm_pins.specs.Rule.{KnowsPin}

abbrev pub Seated : Type 0
Seated = Me (Unit {0}) View

-- one was added to the head
abbrev pub Pinned : Step (Unit {0}) → Seated → ℕ → Seated → Type 0
Pinned step old found new = (new.0 ≡ pinned_view old.0 (id_in found) (slot_in found))
    × (old.0.id ≤ id_in found) × (slot_in found < old.0.slots)

-- one was added to the word of the slot held
abbrev pub Unpinned : Step (Unit {0}) → Seated → ℕ → Seated → Type 0
Unpinned step old found new = new.0 ≡ unpinned_view old.0

-- the word of a slot was loaded
abbrev pub LookedAt : ℕ → Step (Unit {0}) → Seated → ℕ → Seated → Type 0
LookedAt slot step old found new = new.0 ≡ looked_view old.0 slot found

abbrev pub Looked : Step (Unit {0}) → Seated → ℕ → Seated → Type 0
Looked step = LookedAt (step.word - 1) step

-- the head was swapped
abbrev pub Published : Step (Unit {0}) → Seated → ℕ → Seated → Type 0
Published step old found new =
    (new.0 ≡ published_view old.0 (slot_in step.first) (count_in found))
    × ((record_at old.0.records old.0.slot).total + count_in found < 2 ^ 64)

-- the head was loaded: its id is not below what was seen, or told of, before
abbrev pub Learnt : Step (Unit {0}) → Seated → ℕ → Seated → Type 0
Learnt step old found new = (new.0 ≡ learnt_view old.0 (id_in found) (slot_in found))
    × (old.0.id ≤ id_in found) × (old.0.told_id ≤ id_in found)

-- the publisher's note is of no id above its own, and a note of its own id has its slot
abbrev pub NoteChecked : Step (Unit {0}) → Seated → ℕ → Seated → Type 0
NoteChecked step old found new =
    (new.0 ≡ old.0) × (old.0.note_id ≤ old.0.id)
    × (old.0.note_id ≡ old.0.id → old.0.note_slot ≡ old.0.slot)

-- the records that a reader was told of have its pin, where they are no older than the pin
abbrev pub PinChecked : Step (Unit {0}) → Seated → ℕ → Seated → Type 0
PinChecked step old found new = (new.0 ≡ old.0) × KnowsPin old.0 old.0
