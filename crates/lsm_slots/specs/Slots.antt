-- The versions of a store, by the slots of its board of pins (this project's rule).
use Rattle.std.specs.Prelude.{◌≡◌, ◌≢◌, ℕ, suc, ◌-◌, ◌≤◌, ◌<◌, ◌⊎◌, ◌==◌, if◌then◌else◌, Bool}
use Rattle.std.specs.Prelude.{false, List, [], ◌∷◌, ◌++◌, length, map, replicate, Option, Some}
use Rattle.std.specs.Prelude.{None, slice_get, slice_set}
use Rattle.lsm_version.specs.Versions.{Levels, numbers_in}
use Rattle.lsm_pins.specs.Known.{Known}
use Rattle.lsm_pins.specs.View.{HasId, slot_ids}

-- a version in its slot: its id, and how often it is pinned under the lock
pub record Epoch : Type 0 where
  pub id : ℕ
  pub version : Levels
  pub pins : ℕ

-- the publisher's end of the board, the current version, and what is in each slot: nothing where it
-- is free
pub record Slotted : Type 0 where
  pub board : Known
  pub version : Levels
  pub epochs : List (Option Epoch)

abbrev pub current_id : Slotted → ℕ
current_id s = s.board.knows.id

abbrev pub current_slot : Slotted → ℕ
current_slot s = s.board.knows.slot

-- the slots at which the publisher looked, one for each look, the latest first
abbrev pub looks_of : Slotted → List ℕ
looks_of s = s.board.knows.looks

abbrev pub id_of : Option Epoch → Option ℕ
id_of None = None
id_of (Some e) = Some e.id

-- The slots are the board's: each has the version of its id, the free ones have none, and the
-- current one has the current version. No two slots have one id, and none has a later one than the
-- current.
pub record AreSlots (s : Slotted) : Type 0 where
  pub ids : map id_of s.epochs ≡ slot_ids s.board.knows
  pub few : length s.epochs ≤ 64
  pub pins : ℕ
  pub current : slice_get s.epochs (current_slot s)
      ≡ Some (Some record { id = current_id s; version = s.version; pins = pins })
  pub below : (i id : ℕ) → HasId s.board.knows i id → id ≤ current_id s
  pub one_each : (i j id : ℕ) → HasId s.board.knows i id → HasId s.board.knows j id → i ≡ j

-- the slots of a new board: the version is current in slot 0
abbrev pub first_slots : Known → ℕ → Levels → Slotted
first_slots board slots version =
    record {
      board = board;
      version = version;
      epochs = Some record
          { id = board.knows.id; version = version; pins = 0 } ∷ replicate (slots - 1) None;
    }

-- ---- what is in a slot

abbrev pub HasEpoch : Slotted → ℕ → Epoch → Type 0
HasEpoch s slot e = slice_get s.epochs slot ≡ Some (Some e)

abbrev pub IsFreeSlot : Slotted → ℕ → Type 0
IsFreeSlot s slot = slice_get s.epochs slot ≡ Some None

-- no slot is free
abbrev pub AllHeld : Slotted → Type 0
AllHeld s = (slot : ℕ) → IsFreeSlot s slot → ⊥

-- a slot has the version of this id, which is pinned under the lock
pub record IsPinned (s : Slotted) (id : ℕ) : Type 0 where
  pub slot : ℕ
  pub epoch : Epoch
  pub had : HasEpoch s slot epoch
  pub its : epoch.id ≡ id
  pub some : 0 < epoch.pins

-- ---- looks

-- the version in a slot has no pin under the lock
abbrev pub is_unpinned : Option Epoch → Bool
is_unpinned None = false
is_unpinned (Some e) = e.pins == 0

-- a look may free the slot: it is not the current one, and its version has no pin under the lock
abbrev pub MayFree : Slotted → ℕ → Type 0
MayFree s slot = (slot ≢ current_slot s) × ((e : Epoch) × HasEpoch s slot e × (e.pins ≡ 0))

-- the places, counted from this one on, of versions that have no pin under the lock
abbrev pub unpinned_from : ℕ → List (Option Epoch) → List ℕ
unpinned_from place [] = []
unpinned_from place (e ∷ epochs) = if is_unpinned e then place ∷ unpinned_from (suc place) epochs
    else unpinned_from (suc place) epochs

-- these one after another, and then those that were there: the last comes first
abbrev pub onto : List ℕ → List ℕ → List ℕ
onto [] there = there
onto (n ∷ ns) there = onto ns (n ∷ there)

-- The looks once each such slot was looked at, in the order of the slots: each that is not the
-- current one, and whose version has no pin under the lock.
abbrev pub looks_around : Slotted → List ℕ
looks_around s = onto (unpinned_from 0 (slice_set s.epochs (current_slot s) None)) (looks_of s)

-- A look turned the slot free: it was not current, and its version had no pin under the lock.
pub record Freed (old new : Slotted) (slot : ℕ) : Type 0 where
  pub epoch : Epoch
  pub had : HasEpoch old slot epoch
  pub unpinned : epoch.pins ≡ 0
  pub retired : slot ≢ current_slot old
  pub free : IsFreeSlot new slot

-- What looks leave: each slot as it was, or free.
pub record Looked (old new : Slotted) : Type 0 where
  pub board : new.board.board ≡ old.board.board
  pub id : current_id new ≡ current_id old
  pub slot : current_slot new ≡ current_slot old
  pub version : new.version ≡ old.version
  pub length : length new.epochs ≡ length old.epochs
  pub each : (slot : ℕ) → (slice_get new.epochs slot ≡ slice_get old.epochs slot)
      ⊎ Freed old new slot

-- ---- publications and pins

-- The version came into a free slot, under the next id; every other slot is as it was.
pub record Published (old new : Slotted) (version : Levels) : Type 0 where
  pub board : new.board.board ≡ old.board.board
  pub slot : ℕ
  pub was_free : IsFreeSlot old slot
  pub id : current_id new ≡ suc (current_id old)
  pub slot_is : current_slot new ≡ slot
  pub version_is : new.version ≡ version
  pub epochs : new.epochs ≡ slice_set old.epochs slot
      (Some record { id = suc (current_id old); version = version; pins = 0 })

-- The pins of the version of this id went from one count to another, and nothing else changed.
pub record PinsMove (old new : Slotted) (id from to : ℕ) : Type 0 where
  pub slot : ℕ
  pub epoch : Epoch
  pub had : HasEpoch old slot epoch
  pub its : epoch.id ≡ id
  pub from_is : epoch.pins ≡ from
  pub is : new ≡ record old {
    epochs = slice_set old.epochs slot (Some (record epoch { pins = to }));
  }

-- ---- numbers

abbrev pub numbers_at : Option Epoch → List ℕ
numbers_at None = []
numbers_at (Some e) = numbers_in e.version

-- the numbers of the tables of all versions, slot by slot
abbrev pub numbers_held : List (Option Epoch) → List ℕ
numbers_held [] = []
numbers_held (e ∷ epochs) = numbers_at e ++ numbers_held epochs
