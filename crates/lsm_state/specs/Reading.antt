-- What a read is made at, and why it is refused.
use Rattle.std.specs.Prelude.{◌≡◌, ℕ, Option, None, Some}
use Rattle.lsm_codec.specs.Lists.{Has}
use Rattle.lsm_shelf.specs.Told.{Told}
use Rattle.lsm_table.specs.ReadFault.{IsMemoryOrShelf, ReadCounted}
use Rattle.lsm_slots.specs.Snapshots.{HasId}
use Rattle.lsm_state.specs.Held.{Held}
use Rattle.lsm_state.specs.declared.state_fault.StateFault.{StateFault}
use Rattle.lsm_state.specs.declared.state_fault.StateFault.TheVariants.{Read, UnknownSnapshot}

-- the sequence of a read: a live snapshot's, or the last
abbrev pub IsSequence : Held → Option ℕ → ℕ → Type 0
IsSequence h None seq = seq ≡ h.slots.version.last
IsSequence h (Some id) seq = Has h.snapshots.taken (id, seq)

-- no snapshot of the id is live
abbrev pub IsUnknown : Held → Option ℕ → StateFault → Type 0
IsUnknown h None e = ⊥
IsUnknown h (Some id) e = (e ≡ UnknownSnapshot id) × (HasId h.snapshots.taken id → ⊥)

-- The snapshot is unknown, or a table could not be read, where the snapshot is known; a refusal of
-- the shelf comes with a count that rose.
abbrev pub IsReadRefusal : Held → Option ℕ → Told → Told → StateFault → Type 0
IsReadRefusal h at was is (Read fault) =
    ((seq : ℕ) × IsSequence h at seq) × ReadCounted fault was is
IsReadRefusal h at was is e = IsUnknown h at e

-- over an honest shelf no bytes are wrong
abbrev pub IsNoBadTable : StateFault → Type 0
IsNoBadTable (Read fault) = IsMemoryOrShelf fault
IsNoBadTable e = Unit {0}
