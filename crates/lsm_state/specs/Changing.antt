-- What a change of the current version leaves of a state, and why it is refused (LevelDB's
-- `VersionSet::LogAndApply`; slots, and a new manifest at a limit, are this project's rule).
use Rattle.std.specs.Prelude.{◌≡◌, ℕ, ◌+◌, ◌-◌, ◌^◌, ◌<◌, ◌≤◌, Bool, true, false, if◌then◌else◌}
use Rattle.std.specs.Prelude.{List, ◌++◌, Option, Some, None, Err}
use Rattle.lsm_codec.specs.Entries.{Entry}
use Rattle.lsm_shelf.specs.Told.{Told, CountedBy}
use Rattle.lsm_shelf.specs.declared.shelf_fault.ShelfFault.{ShelfFault}
use Rattle.lsm_shelf.specs.declared.shelf_fault.ShelfFault.TheVariants as shelf
use Rattle.lsm_version.specs.Versions.{files}
use Rattle.lsm_model.specs.Plain.{Plain}
use Rattle.lsm_slots.specs.Slots.{AllHeld, IsFreeSlot, Looked, Slotted, Published, current_id}
use Rattle.lsm_slots.specs.Slots.{looks_around, looks_of}
use Rattle.lsm_live.specs.Booked.{Booked, lives_of, without}
use Rattle.lsm_journal.specs.HeldManifest.{is_at_limit}
use Rattle.lsm_journal.specs.Difference.{Difference, changed_by}
use Rattle.lsm_journal.specs.Sending.{IsSendRefusal, Sends}
use Rattle.lsm_state.specs.Held.{Held, plain}
use Rattle.lsm_state.specs.declared.state_fault.StateFault.{StateFault}
use Rattle.lsm_state.specs.declared.state_fault.StateFault.TheVariants.{OutOfMemory, Shelf}
use Rattle.lsm_state.specs.declared.state_fault.StateFault.TheVariants.{SlotsHeld, VersionsSpent}

-- ---- a slot

-- A free slot was sought: where one was known nothing changed, and else each slot that may turn
-- free was looked at.
pub record Sought (old new : Slotted) : Type 0 where
  pub looked : Looked old new
  pub known : (slot : ℕ) → IsFreeSlot old slot → new ≡ old
  pub looks : AllHeld old → looks_of new ≡ looks_around old

-- a slot is free, and an id is left for the version that comes next
abbrev pub HasSlot : Slotted → Type 0
HasSlot s = (slot : ℕ) × IsFreeSlot s slot × (current_id s < 2 ^ 28 - 1)

-- Why no slot is found: none is free after every slot that may turn free was looked at; or the
-- current version's id is the last one.
abbrev pub IsSlotRefusal : Slotted → Slotted → StateFault → Type 0
IsSlotRefusal old new SlotsHeld = AllHeld new × (looks_of new ≡ looks_around old)
IsSlotRefusal old new VersionsSpent =
    (2 ^ 28 - 1 ≤ current_id old) × ((slot : ℕ) × IsFreeSlot new slot)
IsSlotRefusal old new e = ⊥

-- ---- a change

-- the live jobs without that of the ticket, if one is named
abbrev pub live_after : Option ℕ → List Booked → List Booked
live_after None live = live
live_after (Some ticket) live = without ticket live

-- the machine's state after the change, with the job of the ticket taken out
abbrev pub plain_after : Held → Difference → Option ℕ → Plain
plain_after h d out = record (plain h) {
  files = files (changed_by d h.slots.version);
  last = d.last;
  live = lives_of
      (live_after out h.live);
}

-- The change is in the manifest, here and on the shelf, its version is current, in a slot that was
-- free, the job of the ticket is out, and just the entries that came with the change came into the
-- history. No slot was looked at, and all else is as before.
pub record ChangesVersion (old new : Held) (d : Difference) (out : Option ℕ) (coming : List Entry)
    (was is : Told) : Type 0 where
  pub rest : new ≡ record old {
    slots = new.slots;
    next = new.next;
    live = live_after out old.live;
    journal = new.journal;
    history = coming ++ old.history;
  }
  pub published : Published old.slots new.slots (changed_by d old.slots.version)
  pub looks : looks_of new.slots ≡ looks_of old.slots
  pub sends : Sends d (changed_by d old.slots.version) old.next new.next old.journal new.journal was
      is

-- after this refusal of the shelf the manifest may be written no more
abbrev pub halts : ShelfFault → Bool
halts shelf.OutOfMemory = false
halts shelf.Device = true
halts shelf.Missing = true
halts (shelf.Taken n) = true

-- the next file number after a refused write: that of a new manifest is spent
abbrev pub next_spent : Held → ℕ
next_spent h = if is_at_limit h.journal then h.next + 1 else h.next

-- Why a change is refused, and what is left: memory was wanted before anything was written, and all
-- is as before; or the shelf refused the write, which spends the number of a new manifest and halts
-- the state unless it was for want of memory.
abbrev pub IsChangeRefusal : Held → Held → StateFault → Told → Told → Type 0
IsChangeRefusal old new OutOfMemory was is = (new ≡ old) × (is ≡ was)
IsChangeRefusal old new (Shelf fault) was is =
    (new ≡ record old { next = next_spent old; halted = halts fault })
    × IsSendRefusal old.journal old.next fault was is
    × CountedBy {T = Unit {0}} (Err fault) was is
IsChangeRefusal old new e was is = ⊥
