-- Installs: the change that the result of a job makes, and why it is refused (LevelDB's
-- `doc/impl.md`, "Compactions", and `Compaction::AddInputDeletions`; several jobs at a time are
-- this project's rule).
use Rattle.std.specs.Prelude.{◌≡◌, ℕ, suc, ◌-◌, ◌^◌, true, false, List, [], ◌∷◌, ◌++◌, ◌⊎◌, map}
use Rattle.std.specs.Prelude.{Option, Some, None, Err}
use Rattle.std.specs.List.Sorted.{IsPermutation}
use Rattle.std.specs.Ordering.{is_gt}
use Rattle.lsm_codec.specs.Entries.{answer}
use Rattle.lsm_codec.specs.Keys.{UserKey}
use Rattle.lsm_codec.specs.Lists.{Has}
use Rattle.lsm_model.specs.Files.{all_entries}
use Rattle.lsm_shelf.specs.Told.{Told, CountedBy}
use Rattle.lsm_table.specs.Registry.{Table}
use Rattle.lsm_manifest.specs.EditWriting.{AreInOrder}
use Rattle.lsm_manifest.specs.Replay.{Deletion}
use Rattle.lsm_model.specs.Plain.{IsReadable}
use Rattle.lsm_model.specs.Runs.{Install, Run, Spend}
use Rattle.lsm_version.specs.Versions.{files}
use Rattle.lsm_picker.specs.Choice.{bytes_cmp}
use Rattle.lsm_slots.specs.Slots.{Slotted}
use Rattle.lsm_merge.specs.Work.{Done, Work}
use Rattle.lsm_live.specs.Booked.{Booked}
use Rattle.lsm_live.specs.Results.{IsLiveResult}
use Rattle.lsm_journal.specs.HeldManifest.{is_at_limit}
use Rattle.lsm_journal.specs.Difference.{Difference}
use Rattle.lsm_journal.specs.Sending.{IsSendRefusal}
use Rattle.lsm_state.specs.Changing.{ChangesVersion, HasSlot, IsSlotRefusal, Sought, halts}
use Rattle.lsm_state.specs.Changing.{next_spent}
use Rattle.lsm_state.specs.Held.{Held, plain}
use Rattle.lsm_state.specs.declared.state_fault.StateFault.{StateFault}
use Rattle.lsm_state.specs.declared.state_fault.StateFault.TheVariants.{Halted, NumbersSpent}
use Rattle.lsm_state.specs.declared.state_fault.StateFault.TheVariants.{OutOfMemory, Shelf}
use Rattle.lsm_state.specs.declared.state_fault.StateFault.TheVariants.{SlotsHeld, Stale}
use Rattle.lsm_state.specs.declared.state_fault.StateFault.TheVariants.{VersionsSpent}

-- ---- the change

-- tables that go from a level
abbrev pub deleted_at : ℕ → List Table → List Deletion
deleted_at level ts = map (λ t. record { level = level; number = t.number }) ts

-- the inputs of a job, each from its level
abbrev pub inputs_gone : Work → List Deletion
inputs_gone w = deleted_at w.level w.upper ++ deleted_at (suc w.level) w.lower

-- tables that come to a level
abbrev pub added_at : ℕ → List Table → List (ℕ × Table)
added_at level ts = map (λ t. (level, t)) ts

-- the largest key of the tables: of a user key the oldest
pub record IsLargestKey (ts : List Table) (key : List ℕ) : Type 0 where
  pub table : Table
  pub here : Has ts table
  pub its : table.largest ≡ key
  pub most : (t : Table) → Has ts t → is_gt (bytes_cmp t.largest key) ≡ false

-- the level gets the largest key of the tables as its pointer, or none where there is no table
abbrev pub IsPointer : ℕ → List Table → Option (ℕ × List ℕ) → Type 0
IsPointer level ts None = ts ≡ []
IsPointer level ts (Some p) = (p.0 ≡ level) × IsLargestKey ts p.1

-- The inputs go, by level, then number; the outputs come one level down, the job's level gets the
-- largest key of its inputs there as its pointer, and the last sequence stays.
pub record IsInstallChange (d : Done) (last : ℕ) (c : Difference) : Type 0 where
  pub deleted : IsPermutation (inputs_gone d.work) c.deleted
  pub ordered : AreInOrder c.deleted
  pub added : c.added ≡ added_at (suc d.work.level) d.outputs
  pub pointer : IsPointer d.work.level d.work.upper c.pointer
  pub last_is : c.last ≡ last

-- ---- an install

-- A free slot was sought, and the version changed by just this; the manifest was told; the job is
-- out, and all else is as before: nothing came into the history.
pub record Installed (old new : Held) (d : Done) (was is : Told) : Type 0 where
  pub slots : Slotted
  pub sought : Sought old.slots slots
  pub change : Difference
  pub its : IsInstallChange d old.slots.version.last change
  pub changes : ChangesVersion (record old { slots = slots }) new change (Some d.work.ticket) [] was
      is

-- the same, in a slot that was known to be free
abbrev pub IsPutIn : Held → Held → Done → Told → Told → Type 0
IsPutIn old new d was is = (c : Difference) × IsInstallChange d old.slots.version.last c
    × ChangesVersion old new c (Some d.work.ticket) [] was is

-- every read that is promised, at the last sequence or a live snapshot's, gives what it gave
abbrev pub SameAnswers : Held → Held → Type 0
SameAnswers old new = (k : UserKey) (q : ℕ) → IsReadable (plain old) q
    → answer (all_entries (files new.slots.version)) k q
    ≡ answer (all_entries (files old.slots.version)) k q

-- As an event of the plain machine: the install of the ticket's job; a new manifest spends a
-- number.
abbrev pub IsInstalling : Type 0 → Held → ℕ → Held → Type 0
IsInstalling honest old ticket new =
    Run honest (plain old) (Install ticket ∷ Spend ∷ []) (plain new)

-- ---- refusals

-- some live job is the result's, and drew the numbers that it put
abbrev pub IsLive : Held → Done → Type 0
IsLive h d = (b : Booked) × IsLiveResult h.live d b

-- a new manifest is due, and no number is left for it
abbrev pub LacksNumber : Held → Type 0
LacksNumber h = (is_at_limit h.journal ≡ true) × (h.next ≡ 2 ^ 64 - 1)

-- what an install looks at first finds nothing to refuse
pub record MayInstall (h : Held) (d : Done) : Type 0 where
  pub live : IsLive h d
  pub going : h.halted ≡ false
  pub number : LacksNumber h → ⊥

-- Why an install is refused before it tries anything, in this order: the result's job is not live
-- with the numbers drawn that it put; the state is halted; no number is left for a new manifest.
abbrev pub IsRefusedAtOnce : Held → Done → StateFault → Type 0
IsRefusedAtOnce h d Stale = IsLive h d → ⊥
IsRefusedAtOnce h d Halted = IsLive h d × (h.halted ≡ true)
IsRefusedAtOnce h d NumbersSpent = IsLive h d × (h.halted ≡ false) × LacksNumber h
IsRefusedAtOnce h d e = ⊥

-- Why it is refused after that, and what is left: no slot or no id, after looks; or, where a slot
-- is free and an id is left, memory was refused, or the shelf refused the write of the manifest, as
-- `IsChangeRefusal` says.
abbrev pub IsRefusedLater : Held → Held → StateFault → Told → Told → Type 0
IsRefusedLater old new SlotsHeld was is =
    IsSlotRefusal old.slots new.slots SlotsHeld × (new ≡ record old { slots = new.slots })
    × (is ≡ was)
IsRefusedLater old new VersionsSpent was is =
    IsSlotRefusal old.slots new.slots VersionsSpent × (new ≡ record old { slots = new.slots })
    × (is ≡ was)
IsRefusedLater old new OutOfMemory was is =
    (new ≡ record old { slots = new.slots }) × (is ≡ was) × HasSlot new.slots
IsRefusedLater old new (Shelf fault) was is =
    (new ≡ record old { slots = new.slots; next = next_spent old; halted = halts fault })
    × IsSendRefusal old.journal old.next fault was is × CountedBy {T = Unit {0}} (Err fault) was is
    × HasSlot new.slots
IsRefusedLater old new e was is = ⊥

-- A refused install: at once, and all is as before; or later, after a free slot was sought.
abbrev pub IsInstallRefusal : Held → Held → Done → StateFault → Told → Told → Type 0
IsInstallRefusal old new d e was is =
    (IsRefusedAtOnce old d e × (new ≡ old) × (is ≡ was))
    ⊎ (MayInstall old d × Sought old.slots new.slots × IsRefusedLater old new e was is)
