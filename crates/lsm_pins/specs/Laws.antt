-- The law of a board, in words of its slots, pins and views. This project's rule.
use Rattle.std.specs.Prelude.{◌≡◌, ◌≢◌, ℕ, suc, ◌+◌, ◌^◌, ◌<◌, ◌≤◌, true, Some, None, List, sum_by}
use Rattle.std.specs.Prelude.{slice_get, slice_index}
use Rattle.atomic_table.specs.Table.{State}
use Rattle.lsm_pins.specs.declared.view.View.{View}
use Rattle.lsm_pins.specs.declared.rule.Start.{Start}
use Rattle.lsm_pins.specs.declared.slot_record.SlotRecord.{SlotRecord}
use Rattle.lsm_pins.specs.Head.{head_of, count_in}
use Rattle.lsm_pins.specs.View.{HasId, first_view, held_at}
use Rattle.lsm_pins.specs.Rule.{KnowsPin, BoardHolds}

-- how many pins of the slot were given back
abbrev pub given_back : List ℕ → ℕ → ℕ
given_back words slot = slice_index words (suc slot)

-- how many pins of the current version were made
abbrev pub head_count : List ℕ → ℕ
head_count words = count_in (slice_index words 0)

-- how many views hold the slot
abbrev pub holders : List View → ℕ → ℕ
holders views slot = sum_by (held_at slot) views

-- `p`, the publisher's view, stands in the record of the views
pub record IsPublisher (views : List View) (p : View) : Type 0 where
  pub seat : ℕ
  pub at : slice_get views seat ≡ Some p
  pub live : p.live ≡ true
  pub publishes : p.publishes ≡ true

-- P holds of each state that the board's steps, in any order, can lead to
abbrev pub IsLaw : (List ℕ → List View → View → Type 0) → Type 0
IsLaw P = (start : Start) (s : State (Unit {0}) View) → BoardHolds start s → (p : View)
    → IsPublisher s.views p → P s.words s.views p

-- the words of a board, the views of its seats and, among them, the publisher's
pub record BoardLaw (words : List ℕ) (views : List View) (p : View) : Type 0 where
  pub head : slice_index words 0 ≡ head_of p.slot p.id (head_count words)
  -- the current slot has the publisher's id, so it is not free
  pub in_use : HasId p p.slot p.id
  -- the current slot: its pins before and after it became current are those given back and those
  -- held
  pub current : (r : SlotRecord) → slice_get p.records p.slot ≡ Some r
      → r.total + head_count words ≡ given_back words p.slot + holders views p.slot
  -- a retired slot: all its pins are given back or held
  pub retired : (s : ℕ) (r : SlotRecord) → slice_get p.records s ≡ Some r → s ≢ p.slot
      → r.total ≡ given_back words s + holders views s
  -- a free slot: all its pins are given back
  pub free : (s : ℕ) (r : SlotRecord) → slice_get p.records s ≡ Some r → r.id ≡ None
      → (r.total ≡ given_back words s) × (holders views s ≡ 0)
  -- no view has seen a greater id than the publisher's
  pub none_later : (y : ℕ) (v : View) → slice_get views y ≡ Some v → v.id ≤ p.id
  -- views that have seen one id have seen one slot for it
  pub one_slot : (y z : ℕ) (v w : View) → slice_get views y ≡ Some v → slice_get views z ≡ Some w
      → v.live ≡ true → w.live ≡ true → v.id ≡ w.id → v.slot ≡ w.slot
  -- whoever was told of the records no earlier than a pin was current knows the pin's slot to have
  -- its id
  pub known : (y z : ℕ) (c v : View) → slice_get views y ≡ Some c → slice_get views z ≡ Some v
      → c.live ≡ true → v.live ≡ true → KnowsPin c v

-- the slot that a view holds has the pin's id for the publisher: it is not free
abbrev pub HeldIsNotFree : List ℕ → List View → View → Type 0
HeldIsNotFree words views p = (y id slot : ℕ) (v : View) → slice_get views y ≡ Some v
    → v.live ≡ true → v.held ≡ Some (id, slot) → HasId p slot id

-- a slot that is not current and of which not all pins are given back is held by a view, so a look
-- that answers false of it is right
abbrev pub MissedIsHeld : List ℕ → List View → View → Type 0
MissedIsHeld words views p = (s : ℕ) (r : SlotRecord) → slice_get p.records s ≡ Some r → s ≢ p.slot
    → given_back words s ≢ r.total
    → (y id : ℕ) × (v : View) × (slice_get views y ≡ Some v) × (v.live ≡ true)
    × (v.held ≡ Some (id, s))

-- a state that the rule allows, with a publisher's view in it, of a board of so many slots that
-- began no later
pub record SomeState (start : Start) : Type 0 where
  pub state : State (Unit {0}) View
  pub kept : BoardHolds start state
  pub view : View
  pub publisher : IsPublisher state.views view
  pub slots_are : view.slots ≡ start.slots
  pub begun : start.id ≤ view.id

-- the rule allows a state of each board that can be made: the one with which it begins
abbrev pub EachStartHasAState : Type 0
EachStartHasAState = (start : Start) → 0 < start.slots → start.slots ≤ 64 → start.id < 2 ^ 28
    → (s : SomeState start) × (s.view ≡ first_view start)

-- in some such state a view holds a slot whose version is no longer current
abbrev pub APinOutlivesItsVersion : Type 0
APinOutlivesItsVersion = (start : Start) × (s : SomeState start) × (y id slot : ℕ) × (v : View)
    × (slice_get s.state.views y ≡ Some v) × (v.live ≡ true) × (v.held ≡ Some (id, slot))
    × (slot ≢ s.view.slot)

-- so a law is no empty promise: what can't be is none
abbrev pub NoLawIsAbsurd : Type 0
NoLawIsAbsurd = IsLaw (λ words views p. ⊥) → ⊥
