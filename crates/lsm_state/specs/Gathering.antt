-- Gathering: the newest small files of level 0 become one, with all their entries (this project's
-- rule; LevelDB gathers what comes in memory, before it writes a table).
use Rattle.std.specs.Prelude.{◌≡◌, ℕ, suc, ◌+◌, ◌^◌, ◌≤◌, ◌⊎◌, false, true, List, [], ◌∷◌, None}
use Rattle.std.specs.List.Sorted.{IsPermutation}
use Rattle.lsm_shelf.specs.Asked.{Asked}
use Rattle.lsm_shelf.specs.Told.{Told, Becomes, putting}
use Rattle.lsm_shelf.specs.Refusals.{IsWantOr}
use Rattle.lsm_shelf.specs.declared.shelf_fault.ShelfFault.{ShelfFault}
use Rattle.lsm_table.specs.HeldTable.{entries_in}
use Rattle.lsm_table.specs.Registry.{Table}
use Rattle.lsm_table.specs.declared.table_options.TableOptions.{TableOptions}
use Rattle.lsm_manifest.specs.EditWriting.{AreInOrder}
use Rattle.lsm_model.specs.Files.{all_entries}
use Rattle.lsm_model.specs.Plain as machine
use Rattle.lsm_version.specs.Versions.{IsWhole, files_of, level_in}
use Rattle.lsm_picker.specs.Gathering as picker
use Rattle.lsm_slots.specs.Slots.{Slotted}
use Rattle.lsm_journal.specs.Difference.{Difference}
use Rattle.lsm_merge.specs.Causes.{HasCause, NamesRefused}
use Rattle.lsm_merge.specs.Gathering.{HasEachOf, IsOfOneOutput, PutsAtMost}
use Rattle.lsm_merge.specs.InputOrder.{HasTwins}
use Rattle.lsm_merge.specs.Inputs.{IsOrderFault, IsReadable, numbers_of}
use Rattle.lsm_merge.specs.Work.{IsBuilt}
use Rattle.lsm_merge.specs.declared.merge_fault.MergeFault.{MergeFault}
use Rattle.lsm_live.specs.Reserving.{reserved_jobs}
use Rattle.lsm_state.specs.Asked.{ChangeRefused}
use Rattle.lsm_state.specs.Changing.{ChangesVersion, HasSlot, IsChangeRefusal, Sought}
use Rattle.lsm_state.specs.Collecting.{SameCounts}
use Rattle.lsm_state.specs.Held.{Held, plain}
use Rattle.lsm_state.specs.Ingesting.{HasNumbers, LacksSlot, numbers_needed, with_number}
use Rattle.lsm_state.specs.Ingesting.{with_slots}
use Rattle.lsm_state.specs.Installing.{deleted_at}
use Rattle.lsm_state.specs.Options.{sizes_of}
use Rattle.lsm_state.specs.declared.gather_fault.GatherFault.{GatherFault}
use Rattle.lsm_state.specs.declared.gather_fault.GatherFault.TheVariants.{Merge, State}
use Rattle.lsm_state.specs.declared.state_fault.StateFault.TheVariants.{Halted, NumbersSpent}
use Rattle.lsm_state.specs.declared.state_fault.StateFault.TheVariants.{OutOfMemory, Shelf}

-- ---- what is gathered

-- by the rule, the files of level 0 from this number on
abbrev pub IsToGather : Held → ℕ → Type 0
IsToGather h least =
    picker.IsToGather h.slots.version (reserved_jobs h.live) h.options.target_size least

abbrev pub HasNoneToGather : Held → Type 0
HasNoneToGather h =
    picker.HasNoneToGather h.slots.version (reserved_jobs h.live) h.options.target_size

abbrev pub gathered : Held → ℕ → List Table
gathered h least = picker.newest least (level_in h.slots.version.tables 0)

-- A table under this number, written with these sizes. Over an honest shelf it has all entries of
-- the tables that are gathered, and no other.
pub record IsGathered (Honest : Type 0) (gone : List Table) (sizes : TableOptions) (number : ℕ)
    (t : Table) : Type 0 where
  pub whole : IsWhole t
  pub number_is : t.number ≡ number
  pub built : IsBuilt sizes t
  pub entries : Honest → HasEachOf (entries_in t.image) (all_entries (files_of 0 gone))

-- The gathered tables go, by number; the new one comes in at level 0; no pointer changes, nor the
-- last sequence.
pub record IsGatherChange (gone : List Table) (t : Table) (last : ℕ) (c : Difference)
    : Type 0 where
  pub deleted : IsPermutation (deleted_at 0 gone) c.deleted
  pub ordered : AreInOrder c.deleted
  pub added : c.added ≡ (0, t) ∷ []
  pub pointer : c.pointer ≡ None
  pub last_is : c.last ≡ last

-- ---- what is left

-- what is looked at first finds nothing to refuse
pub record MayGather (h : Held) (least : ℕ) : Type 0 where
  pub going : h.halted ≡ false
  pub rule : IsToGather h least
  pub numbers : HasNumbers h

-- The files of the rule were gathered: a free slot was sought; their table was put under the next
-- number; and the version has it in their place. Nothing came into the history, and no job came or
-- went.
pub record Gathers (Honest : Type 0) (old new : Held) (number : ℕ) (was is : Told) : Type 0 where
  pub number_is : number ≡ old.next
  pub going_on : old.halted ≡ false
  pub numbers : HasNumbers old
  pub least : ℕ
  pub rule : IsToGather old least
  pub slots : Slotted
  pub sought : Sought old.slots slots
  pub table : Table
  pub is_table : IsGathered Honest (gathered old least) (sizes_of old.options) old.next table
  pub mid : Told
  pub put : Becomes (putting old.next table.image was) mid
  pub change : Difference
  pub its : IsGatherChange (gathered old least) table old.slots.version.last change
  pub changes : ChangesVersion (with_number old slots) new change None [] mid is
  pub counts : SameCounts mid is

-- the same, in a slot that was known to be free
abbrev pub IsGatheredIn : Type 0 → Held → Held → ℕ → Told → Told → Type 0
IsGatheredIn Honest old new least was is = (t : Table) × (mid : Told) × (change : Difference)
    × IsGathered Honest (gathered old least) (sizes_of old.options) old.next t
    × Becomes (putting old.next t.image was) mid
    × IsGatherChange (gathered old least) t old.slots.version.last change
    × ChangesVersion (record old { next = suc old.next }) new change None [] mid is
    × SameCounts mid is

-- as an event of the plain machine
abbrev pub IsGathering : Type 0 → Held → Held → Type 0
IsGathering honest old new = machine.Gathers honest (plain old) (plain new)

-- ---- refusals

-- Why it is refused before anything is tried: the state is halted; or memory was refused; or files
-- are to be gathered, and a number would pass 2^64 - 2.
abbrev pub IsGatherRefusedAtOnce : Held → GatherFault → Type 0
IsGatherRefusedAtOnce h (State Halted) = h.halted ≡ true
IsGatherRefusedAtOnce h (State OutOfMemory) = h.halted ≡ false
IsGatherRefusedAtOnce h (State NumbersSpent) = (h.halted ≡ false)
    × ((least : ℕ) × IsToGather h least) × (2 ^ 64 ≤ h.next + numbers_needed h)
IsGatherRefusedAtOnce h e = ⊥

-- no slot: looks were made, and nothing else was done
abbrev pub GatherLacksSlot : Held → Held → GatherFault → Told → Told → Type 0
GatherLacksSlot old new (State e) was is = LacksSlot old new e was is
GatherLacksSlot old new (Merge e) was is = ⊥

-- The tables were not merged, which has its cause; the shelf was told to put one table at most, and
-- that under this number.
pub record IsUngathered (Honest : Type 0) (gone : List Table) (sizes : TableOptions) (number : ℕ)
    (e : MergeFault) (was is : Told) : Type 0 where
  pub cause : HasCause (numbers_of gone) e was is
  pub told : PutsAtMost number sizes was is
  pub one : IsOfOneOutput number e
  pub readable : Honest → IsReadable e
  pub order : Honest → IsOrderFault e → HasTwins (all_entries (files_of 0 gone))

-- Memory was refused before anything was put; or the tables were not merged, and then the number is
-- spent.
abbrev pub FailsToMerge : Type 0 → Held → Held → ℕ → GatherFault → Told → Told → Type 0
FailsToMerge Honest old new least (State e) was is =
    (e ≡ OutOfMemory) × (new ≡ with_slots old new.slots) × (is ≡ was)
FailsToMerge Honest old new least (Merge e) was is = (new ≡ with_number old new.slots)
    × IsUngathered Honest (gathered old least) (sizes_of old.options) old.next e was is

-- the table was put, and then the change was refused
abbrev pub FailsToBringIn : Type 0 → Held → Held → ℕ → GatherFault → Told → Told → Type 0
FailsToBringIn Honest old new least (State e) was is = (t : Table) × (mid : Told)
    × IsGathered Honest (gathered old least) (sizes_of old.options) old.next t
    × Becomes (putting old.next t.image was) mid
    × IsChangeRefusal (with_number old new.slots) new e mid is
    × Becomes mid is
FailsToBringIn Honest old new least (Merge e) was is = ⊥

-- so, where a free slot was known
abbrev pub IsRefusedIn : Type 0 → Held → Held → ℕ → GatherFault → Told → Told → Type 0
IsRefusedIn Honest old new least e was is = FailsToMerge Honest old new least e was is
    ⊎ FailsToBringIn Honest old new least e was is

-- Why a gather is refused, and what it leaves. What can be tested first comes first, and leaves all
-- as it was; then a slot is looked for; then, where one is free and an id is left, the files are
-- merged.
abbrev pub IsGatherRefusal : Type 0 → Held → Held → GatherFault → Told → Told → Type 0
IsGatherRefusal Honest old new e was is =
    (IsGatherRefusedAtOnce old e × (new ≡ old) × (is ≡ was))
    ⊎ ((least : ℕ) × MayGather old least × (GatherLacksSlot old new e was is
    ⊎ (Sought old.slots new.slots × HasSlot new.slots
    × IsRefusedIn Honest old new least e was is)))

-- ---- which call the shelf refused

-- The write of the manifest by which the table comes in; or to give bytes of a gathered file, or to
-- put a table.
abbrev pub GatherRefused : (Asked → ShelfFault → Type 0) → Held → GatherFault → Type 0
GatherRefused Refused h (State (Shelf fault)) = IsWantOr (λ f. (least : ℕ) × (t : Table)
    × (change : Difference) × IsGatherChange (gathered h least) t h.slots.version.last change
    × ChangeRefused Refused (record h { next = suc h.next }) change f) fault
GatherRefused Refused h (State e) = Unit {0}
GatherRefused Refused h (Merge e) = NamesRefused Refused (sizes_of h.options) e
