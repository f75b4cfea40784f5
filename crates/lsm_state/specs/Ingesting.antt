-- What an ingest leaves of a state, and why it is refused (this project's rule; LevelDB writes a
-- level 0 table in `DBImpl::WriteLevel0Table`).
use Rattle.std.specs.Prelude.{◌≡◌, ℕ, suc, ◌+◌, ◌^◌, ◌<◌, ◌≤◌, ◌⊎◌, false, true, if◌then◌else◌}
use Rattle.std.specs.Prelude.{List, [], ◌∷◌, length, None}
use Rattle.lsm_codec.specs.Entries.{Entry}
use Rattle.lsm_shelf.specs.Told.{Told, Becomes, putting}
use Rattle.lsm_block.specs.declared.build_fault.BuildFault.{BuildFault}
use Rattle.lsm_block.specs.declared.build_fault.BuildFault.TheVariants as block
use Rattle.lsm_table.specs.HeldTable.{entries_in}
use Rattle.lsm_table.specs.Registry.{Table}
use Rattle.lsm_table.specs.TableBuilding.{table_bytes}
use Rattle.lsm_table.specs.declared.table_options.TableOptions.{TableOptions}
use Rattle.lsm_version.specs.Versions.{IsWhole, level_in}
use Rattle.lsm_slots.specs.Slots.{Slotted}
use Rattle.lsm_journal.specs.HeldManifest.{is_at_limit}
use Rattle.lsm_journal.specs.Difference.{Difference}
use Rattle.lsm_batch.specs.declared.batch_fault.BatchFault.{BatchFault}
use Rattle.lsm_batch.specs.declared.batch_fault.BatchFault.TheVariants as batch
use Rattle.lsm_batch.specs.declared.write.Write.{Write}
use Rattle.lsm_batch.specs.Batches.{IsBatch, IsBatchRefusal, entries_from}
use Rattle.lsm_batch.specs.Images.{IsPutRefusal, PassesTable}
use Rattle.lsm_state.specs.Changing.{ChangesVersion, HasSlot, IsChangeRefusal, IsSlotRefusal}
use Rattle.lsm_state.specs.Changing.{Sought}
use Rattle.lsm_state.specs.Collecting.{SameCounts}
use Rattle.lsm_state.specs.Held.{Held}
use Rattle.lsm_state.specs.Options.{sizes_of}
use Rattle.lsm_state.specs.declared.ingest.Ingested.{Ingested}
use Rattle.lsm_state.specs.declared.state_fault.StateFault.{StateFault}
use Rattle.lsm_state.specs.declared.state_fault.StateFault.TheVariants.{EmptyBatch, Halted}
use Rattle.lsm_state.specs.declared.state_fault.StateFault.TheVariants.{KeyOrder, LevelZeroFull}
use Rattle.lsm_state.specs.declared.state_fault.StateFault.TheVariants.{NumbersSpent, OutOfMemory}
use Rattle.lsm_state.specs.declared.state_fault.StateFault.TheVariants.{SequencesSpent, Shelf}
use Rattle.lsm_state.specs.declared.state_fault.StateFault.TheVariants.{TooLarge}

-- ---- what comes in

-- the entries of the batch, under the sequences after the last one
abbrev pub entries_of : Held → List Write → List Entry
entries_of h ws = entries_from (suc h.slots.version.last) ws

-- the last sequence after it
abbrev pub last_of : Held → List Write → ℕ
last_of h ws = h.slots.version.last + length ws

-- a table comes in at level 0, and nothing goes
abbrev pub coming_in : Table → ℕ → Difference
coming_in t last = record { deleted = []; added = (0, t) ∷ []; pointer = None; last = last }

-- the record stands for a table of just these entries, under this number
pub record IsTableOf (es : List Entry) (number : ℕ) (t : Table) : Type 0 where
  pub whole : IsWhole t
  pub entries : entries_in t.image ≡ es
  pub number_is : t.number ≡ number

-- the bytes of the batch's table, written with the options' sizes
abbrev pub table_bytes_of : Held → List Write → List ℕ
table_bytes_of h ws = table_bytes (sizes_of h.options) (entries_of h ws)

-- ---- what is left

-- the state with these slots, of which some may have turned free
abbrev pub with_slots : Held → Slotted → Held
with_slots h s = record h { slots = s }

-- so, and the next file number is spent
abbrev pub with_number : Held → Slotted → Held
with_number h s = record h { slots = s; next = suc h.next }

-- The batch came in: slots were looked at, where none was free; its table, with its image, was put
-- under the next number; and the version has it at level 0 from then on, with a greater last
-- sequence. Just its entries came into the history.
pub record Ingests (old new : Held) (ws : List Write) (r : Ingested) (was is : Told) : Type 0 where
  pub file : r.file ≡ old.next
  pub first : r.first ≡ suc old.slots.version.last
  pub last : r.last ≡ last_of old ws
  pub slots : Slotted
  pub sought : Sought old.slots slots
  pub table : Table
  pub is_table : IsTableOf (entries_of old ws) old.next table
  pub mid : Told
  pub put : Becomes (putting old.next table.image was) mid
  pub changes : ChangesVersion (with_number old slots) new (coming_in table (last_of old ws)) None
      (entries_of old ws) mid is
  -- the table is written with the options' sizes
  pub bytes : table.image ≡ table_bytes_of old ws

-- ---- refusals before anything is tried

-- how many file numbers are needed: the table's, and a new manifest's where one is due
abbrev pub numbers_needed : Held → ℕ
numbers_needed h = if is_at_limit h.journal then 2 else 1

-- the state goes on, and the batch is one
abbrev pub Takes : Held → List Write → Type 0
Takes h ws = (h.halted ≡ false) × IsBatch ws

-- level 0 has 11 files at most
abbrev pub HasRoom : Held → Type 0
HasRoom h = length (level_in h.slots.version.tables 0) < 12

-- no sequence would pass 2^56 - 1
abbrev pub HasSequences : Held → List Write → Type 0
HasSequences h ws = last_of h ws < 2 ^ 56

-- no number would pass 2^64 - 2
abbrev pub HasNumbers : Held → Type 0
HasNumbers h = h.next + numbers_needed h < 2 ^ 64

-- Nothing that can be tested first stands against the batch.
pub record IsWelcome (h : Held) (ws : List Write) : Type 0 where
  pub takes : Takes h ws
  pub place : HasRoom h
  pub sequences : HasSequences h ws
  pub numbers : HasNumbers h

-- What does, in this order: the state is halted; the batch is none; level 0 is full; sequences;
-- numbers.
abbrev pub IsEarlyRefusal : Held → List Write → StateFault → Type 0
IsEarlyRefusal h ws Halted = h.halted ≡ true
IsEarlyRefusal h ws EmptyBatch = (h.halted ≡ false) × IsBatchRefusal ws batch.EmptyBatch
IsEarlyRefusal h ws TooLarge = (h.halted ≡ false) × IsBatchRefusal ws batch.TooLarge
IsEarlyRefusal h ws (KeyOrder place) = (h.halted ≡ false) × IsBatchRefusal ws (batch.KeyOrder place)
IsEarlyRefusal h ws LevelZeroFull = Takes h ws × (12 ≤ length (level_in h.slots.version.tables 0))
IsEarlyRefusal h ws SequencesSpent = Takes h ws × HasRoom h × (2 ^ 56 ≤ last_of h ws)
IsEarlyRefusal h ws NumbersSpent =
    Takes h ws × HasRoom h × HasSequences h ws × (2 ^ 64 ≤ h.next + numbers_needed h)
IsEarlyRefusal h ws e = ⊥

-- ---- refusals after that

-- no slot: looks were made, and nothing else was done
abbrev pub LacksSlot : Held → Held → StateFault → Told → Told → Type 0
LacksSlot old new e was is = (new ≡ with_slots old new.slots) × Sought old.slots new.slots
    × IsSlotRefusal old.slots new.slots e × (is ≡ was)

-- the table was not built: memory was wanted, or a block would pass 2^32 - 1 bytes
abbrev pub IsBuildRefusal : TableOptions → List Entry → StateFault → Type 0
IsBuildRefusal sizes es OutOfMemory = Unit {0}
IsBuildRefusal sizes es TooLarge = PassesTable sizes es
IsBuildRefusal sizes es e = ⊥

abbrev pub FailsToBuild : Held → Held → List Write → StateFault → Told → Told → Type 0
FailsToBuild old new ws e was is =
    (new ≡ with_slots old new.slots) × IsBuildRefusal (sizes_of old.options) (entries_of old ws) e
    × (is ≡ was)

-- the table of this image was not put, or its record found no memory
abbrev pub IsPutFault : ℕ → List ℕ → StateFault → Told → Told → Type 0
IsPutFault number image (Shelf fault) was is = IsPutRefusal number image fault was is
IsPutFault number image e was is = ⊥

abbrev pub FailsToPut : Held → Held → List Write → StateFault → Told → Told → Type 0
FailsToPut old new ws e was is =
    (new ≡ with_number old new.slots) × IsPutFault old.next (table_bytes_of old ws) e was is

-- the batch's table was put, and then the change was refused
abbrev pub FailsToChange : Held → Held → List Write → StateFault → Told → Told → Type 0
FailsToChange old new ws e was is =
    (mid : Told) × Becomes (putting old.next (table_bytes_of old ws) was) mid × SameCounts was mid
    × IsChangeRefusal (with_number old new.slots) new e mid is
    × Becomes mid is

-- Why an ingest is refused, and what it leaves. What can be tested first comes first, and leaves
-- all as it was; then a slot is looked for; then, where one is free and an id is left, the table is
-- built. From its put on the number is spent.
abbrev pub IsIngestRefusal : Held → Held → List Write → StateFault → Told → Told → Type 0
IsIngestRefusal old new ws e was is =
    (IsEarlyRefusal old ws e × (new ≡ old) × (is ≡ was))
    ⊎ (IsWelcome old ws × (LacksSlot old new e was is
    ⊎ (Sought old.slots new.slots × HasSlot new.slots
    × (FailsToBuild old new ws e was is
    ⊎ (FailsToPut old new ws e was is ⊎ FailsToChange old new ws e was is)))))

-- ---- names of refusals

abbrev pub of_batch : BatchFault → StateFault
of_batch batch.EmptyBatch = EmptyBatch
of_batch (batch.KeyOrder place) = KeyOrder place
of_batch batch.TooLarge = TooLarge

abbrev pub of_build : BuildFault → StateFault
of_build block.OutOfMemory = OutOfMemory
of_build block.TooLarge = TooLarge
