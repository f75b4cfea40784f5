-- The rule of a board: how its words and the views of its seats belong together between any two
-- steps. This project's rule.
use Rattle.std.specs.Prelude.{◌≡◌, ℕ, suc, ◌+◌, ◌*◌, ◌^◌, ◌<◌, ◌≤◌, ◌==◌, true, cond, Some, None}
use Rattle.std.specs.Prelude.{List, length, sum_by, slice_get, slice_index}
use Rattle.atomic_table.specs.Table.{State}
use Rattle.lsm_pins.specs.declared.view.View.{View}
use Rattle.lsm_pins.specs.declared.rule.Start.{Start}
use Rattle.lsm_pins.specs.declared.slot_record.SlotRecord.{SlotRecord}
use Rattle.lsm_pins.specs.Head.{head_of}
use Rattle.lsm_pins.specs.SlotRecord.{IsInUse}
use Rattle.lsm_pins.specs.View.{held_at, pins_of, parts_of}

-- what is so at a board: the current id, the publisher's records, the slot that each id has had,
-- and which seat publishes
pub record BoardState : Type 0 where
  pub id : ℕ
  pub records : List SlotRecord
  pub slot_of : ℕ → ℕ
  pub seat : ℕ

abbrev pub current_slot : BoardState → ℕ
current_slot b = b.slot_of b.id

-- the pins of the current id so far
abbrev pub current_pins : BoardState → List View → ℕ
current_pins b views = sum_by (pins_of b.id) views

-- of every view, a spent one too: at most 2^24 pins for each part, no id above the current one, and
-- a pin only where it is not spent
pub record IsBounded (id : ℕ) (v : View) : Type 0 where
  pub few : v.count ≤ 2 ^ 24 * v.parts
  pub seen : v.id ≤ id
  pub holder : (id slot : ℕ) → v.held ≡ Some (id, slot) → v.live ≡ true

-- what a view that is not spent says is so
pub record Fits (b : BoardState) (by : ℕ) (v : View) : Type 0 where
  pub slots : v.slots ≡ length b.records
  pub seen_slot : b.slot_of v.id ≡ v.slot
  pub noted : v.note_id ≤ b.id
  pub noted_slot : b.slot_of v.note_id ≡ v.note_slot
  pub told : v.told_id ≤ b.id
  pub told_current : IsInUse v.records (b.slot_of v.told_id) v.told_id
  pub holds : (id slot : ℕ) → v.held ≡ Some (id, slot) → (id ≤ b.id) × IsInUse b.records slot id
  pub publishes : v.publishes ≡ true
      → (by ≡ b.seat) × (v.id ≡ b.id) × (v.told_id ≡ b.id) × (v.records ≡ b.records)

-- where c was told of the records no earlier than v's pin was current, they have the pin's slot in
-- use by its id
pub record KnowsPin (c v : View) : Type 0 where
  pub names : (id slot : ℕ) → v.held ≡ Some (id, slot) → id ≤ c.told_id → IsInUse c.records slot id

-- The first word is the head; the word after slot s, counted from 0, is the number of pins of the
-- slot that were given back. Of each slot the total, with the head's count where it is current, is
-- the number of pins given back and of those held.
pub record IsKeptBy (b : BoardState) (words : List ℕ) (views : List View) : Type 0 where
  pub width : length words ≡ suc (length b.records)
  pub few_slots : length b.records ≤ 64
  pub head : slice_index words 0 ≡ head_of (current_slot b) b.id (current_pins b views)
  pub ids : b.id < 2 ^ 28
  pub current_is : IsInUse b.records (current_slot b) b.id
  pub few_parts : sum_by parts_of views ≤ 62
  pub balance : (s : ℕ) (r : SlotRecord) → slice_get b.records s ≡ Some r
      → r.total + cond (s == current_slot b) (current_pins b views) 0
      ≡ slice_index words (suc s) + sum_by (held_at s) views
  pub bounded : (s : ℕ) (r : SlotRecord) → slice_get b.records s ≡ Some r → r.total ≤ b.id * 2 ^ 30
  pub free : (s : ℕ) (r : SlotRecord) → slice_get b.records s ≡ Some r → r.id ≡ None
      → sum_by (held_at s) views ≡ 0
  pub small : (by : ℕ) (v : View) → slice_get views by ≡ Some v → IsBounded b.id v
  pub fits : (by : ℕ) (v : View) → slice_get views by ≡ Some v → v.live ≡ true → Fits b by v
  pub known : (x y : ℕ) (c v : View) → slice_get views x ≡ Some c → slice_get views y ≡ Some v
      → c.live ≡ true → v.live ≡ true → KnowsPin c v

abbrev pub IsKept : List ℕ → List View → Type 0
IsKept words views = (b : BoardState) × IsKeptBy b words views

-- the rule, as the table keeps it between any two steps
abbrev pub BoardHolds : Start → State (Unit {0}) View → Type 0
BoardHolds start s = IsKept s.words s.views
