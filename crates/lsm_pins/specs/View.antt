-- What a seat at the board knows, and what each kind of step leaves it knowing. This project's
-- rule.
use Rattle.std.specs.Prelude.{◌≡◌, ℕ, ◌+◌, ◌-◌, ◌==◌, Bool, true, false, cond, Option, Some, None}
use Rattle.std.specs.Prelude.{List, [], ◌∷◌, length, slice_get, not, ◌&&◌}
use Rattle.lsm_pins.specs.declared.view.View.{View}
use Rattle.lsm_pins.specs.declared.rule.Start.{Start}
use Rattle.lsm_pins.specs.SlotRecord.{record_at, ids_of, first_records, freed_records}
use Rattle.lsm_pins.specs.SlotRecord.{published_records}

-- The public view of a board's slots

-- the id of the version in each slot, none where the publisher knows the slot to be free
abbrev pub slot_ids : View → List (Option ℕ)
slot_ids v = ids_of v.records

-- the publisher knows the slot to be free: it may publish there
abbrev pub IsFree : View → ℕ → Type 0
IsFree v slot = slice_get (slot_ids v) slot ≡ Some None

-- the slot has the version of this id, so it is not free
abbrev pub HasId : View → ℕ → ℕ → Type 0
HasId v slot id = slice_get (slot_ids v) slot ≡ Some (Some id)

-- Counts over one view

-- 1 where the pin, an id and a slot, is one of the slot s
abbrev pub pin_at : ℕ → Option (ℕ × ℕ) → ℕ
pin_at s None = 0
pin_at s (Some pin) = cond (s == pin.1) 1 0

-- how many pins of the slot s the seat holds
abbrev pub held_at : ℕ → View → ℕ
held_at s v = pin_at s v.held

-- how many pins of this id the seat has made, if it is the id that it saw last
abbrev pub pins_of : ℕ → View → ℕ
pins_of id v = cond (v.id == id) v.count 0

abbrev pub parts_of : View → ℕ
parts_of v = v.parts

-- Views at the start

abbrev pub start_of : ℕ → ℕ → Start
start_of slots id = record { slots = slots; id = id }

-- the publisher before it has made a reader: it has a part to give to each of 62
abbrev pub first_view : Start → View
first_view start = record {
  live = true;
  publishes = true;
  slots = length (first_records start.slots start.id);
  parts = 62;
  id = start.id;
  slot = 0;
  count = 0;
  held = None;
  told_id = start.id;
  records = first_records start.slots start.id;
  note_id = start.id;
  note_slot = 0;
  looks = [];
  found = 0;
}

-- the publisher once it has made this many readers
abbrev pub after_making : ℕ → ℕ → ℕ → View
after_making slots id readers = record (first_view (start_of slots id)) { parts = 62 - readers }

-- Views after a step

-- a pin that found this id and slot
abbrev pub pinned_view : View → ℕ → ℕ → View
pinned_view v id slot = record v {
  id = id;
  slot = slot;
  count = pins_of id v
      + 1;
  held = Some (id, slot);
}

-- the pin was given back
abbrev pub unpinned_view : View → View
unpinned_view v = record v { held = None }

-- a load of the head that found this id and slot
abbrev pub learnt_view : View → ℕ → ℕ → View
learnt_view v id slot = record v { id = id; slot = slot; count = pins_of id v }

-- the slot is not the current one, and the word found, its pins given back, is the number of all
-- that were made of it
abbrev pub is_unheld : View → ℕ → ℕ → Bool
is_unheld v slot found = not (slot == v.slot) && (found == (record_at v.records slot).total)

-- a look at the slot that found this word
abbrev pub looked_view : View → ℕ → ℕ → View
looked_view v slot found = record v {
  looks = slot
      ∷ v.looks;
  found = found;
  records = cond (is_unheld v slot found) (freed_records v.records slot)
      v.records;
}

-- a publication in the slot, whose swap found this count of pins of the version before it
abbrev pub published_view : View → ℕ → ℕ → View
published_view v slot count = record v {
  id = v.id + 1;
  slot = slot;
  told_id = v.id
      + 1;
  records = published_records v.records v.slot count slot (v.id + 1);
  found = count;
}

-- Views cut in two and joined

-- a part is given to a new reader
abbrev pub view_less_one_part : View → View
view_less_one_part v = record v { parts = v.parts - 1 }

-- the new reader, which has seen what the publisher had
abbrev pub reader_view : View → View
reader_view v = record v { publishes = false; parts = 1; count = 0; held = None }

-- a copy has seen what the seat had, and counts for nothing
abbrev pub copied_view : View → View
copied_view v = record v { publishes = false; parts = 0; count = 0; held = None }

-- the publisher takes a reader's copy: it notes what the reader saw last
abbrev pub noted_view : View → View → View
noted_view v copy = record v { note_id = copy.id; note_slot = copy.slot }

-- a reader takes the publisher's copy: it is told of the records
abbrev pub told_view : View → View → View
told_view v copy = record v { told_id = copy.told_id; records = copy.records }

-- a copy that was taken
abbrev pub spent_view : View
spent_view = record {
  live = false;
  publishes = false;
  slots = 0;
  parts = 0;
  id = 0;
  slot = 0;
  count = 0;
  held = None;
  told_id = 0;
  records = [];
  note_id = 0;
  note_slot = 0;
  looks = [];
  found = 0;
}

pub record IsCopy (c : View) : Type 0 where
  pub live : c.live ≡ true
  pub count : c.count ≡ 0
  pub parts : c.parts ≡ 0
  pub held : c.held ≡ None
