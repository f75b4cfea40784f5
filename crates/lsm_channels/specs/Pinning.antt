-- By whose pin a version is read (this project's rule).
use Rattle.std.specs.Prelude.{◌≡◌, ◌⊎◌, ℕ, ◌+◌, ◌-◌, ◌^◌}
use Rattle.lsm_slots.specs.Slots.{Epoch, HasEpoch, IsPinned, PinsMove, Slotted, current_id}
use Rattle.lsm_slots.specs.Slots.{current_slot}
use Rattle.lsm_state.specs.Held.{Held}
use Rattle.lsm_state.specs.declared.state_fault.StateFault.{StateFault}
use Rattle.lsm_state.specs.declared.state_fault.StateFault.TheVariants.{OutOfMemory, PinsSpent}
use Rattle.lsm_store.specs.Readers.{IsPinning, Learnt}
use Rattle.lsm_channels.specs.declared.pin.Pin.{Pin}
use Rattle.lsm_channels.specs.declared.pin.Pin.TheVariants.{Own, Locked}

-- ---- what is learnt

-- The current version, and its id, are what this reader has learnt.
abbrev pub HasLearnt : Slotted → Learnt → Type 0
HasLearnt slots r = (r.id ≡ current_id slots) × (r.version ≡ slots.version)

-- The second knows the version, the history and the snapshots that the first knows.
abbrev pub KnowsSame : Learnt → Learnt → Type 0
KnowsSame a b = (b.id ≡ a.id) × (b.version ≡ a.version) × (b.history ≡ a.history)
    × (b.snapshots ≡ a.snapshots)

-- the reader that has the pin, or for which it was made under the lock
abbrev pub seen_by : {N S R : Type 0} → Pin N S R → Learnt
seen_by (Own view) = view
seen_by (Locked reader) = reader

-- ---- pins

-- one more pin under the lock of the current version
abbrev pub PinsCurrent : (was is : Slotted) → Type 0
PinsCurrent was is = (pins : ℕ) × PinsMove was is (current_id was) pins (pins + 1)

-- one pin less of the version of this id; nothing changes where it has none
abbrev pub GivesPinBack : (was is : Slotted) → ℕ → Type 0
GivesPinBack was is id = ((IsPinned was id → ⊥) × (is ≡ was))
    ⊎ ((pins : ℕ) × PinsMove was is id (pins + 1) pins)

-- The reader holds a pin of the version that it has learnt, and the slots are as they were; or one
-- more pin was made under the lock.
abbrev pub IsPinnedBy : {N S R : Type 0} → (was is : Slotted) → Pin N S R → Type 0
IsPinnedBy was is (Own view) = IsPinning view × (is ≡ was)
IsPinnedBy was is (Locked reader) = PinsCurrent was is

-- ---- refusals

-- The current version has 2^32 - 1 pins under the lock.
abbrev pub IsSpent : Held → StateFault → Type 0
IsSpent h e = (e ≡ PinsSpent) × ((epoch : Epoch) × HasEpoch h.slots (current_slot h.slots) epoch
    × (epoch.pins ≡ 2 ^ 32 - 1))

-- Why the current version is not pinned: so; or memory ran out.
abbrev pub IsUnpinned : Held → StateFault → Type 0
IsUnpinned h e = IsSpent h e ⊎ (e ≡ OutOfMemory)

-- ---- what a reader that learns leaves

-- The same versions are in the same slots, and the same one is current.
pub record HasSameVersions (was is : Slotted) : Type 0 where
  pub id : current_id is ≡ current_id was
  pub slot : current_slot is ≡ current_slot was
  pub version : is.version ≡ was.version
  pub epochs : is.epochs ≡ was.epochs
