-- What a database is to those who read and write it: all that ever came in, and nothing of files
-- and compactions. A script's replies are those of this machine (snapshots are LevelDB's,
-- `include/leveldb/db.h`; that installs change nothing is this project's promise).
use Rattle.std.specs.Prelude.{◌≡◌, ◌⊎◌, ℕ, suc, ◌+◌, ◌^◌, ◌<◌, ◌≤◌, List, [], ◌∷◌, ◌++◌, length}
use Rattle.std.specs.Prelude.{Option, None, Some}
use Rattle.lsm_codec.specs.Entries.{Entry, answer}
use Rattle.lsm_codec.specs.Keys.{UserKey}
use Rattle.lsm_codec.specs.Lists.{Has}
use Rattle.lsm_model.specs.Files.{all_entries}
use Rattle.lsm_version.specs.Versions.{files}
use Rattle.lsm_model.specs.Plain.{IsReadable, without_snapshot}
use Rattle.lsm_table.specs.declared.table_options.TableOptions.{TableOptions}
use Rattle.lsm_batch.specs.Batches.{IsBatch, IsBatchRefusal, entries_from}
use Rattle.lsm_batch.specs.Images.{PassesTable}
use Rattle.lsm_batch.specs.declared.batch_fault.BatchFault.TheVariants as batch
use Rattle.lsm_batch.specs.declared.write.Write.{Write}
use Rattle.lsm_slots.specs.Snapshots.{HasId}
use Rattle.lsm_state.specs.Held.{Held, plain}
use Rattle.lsm_state.specs.declared.state_fault.StateFault.{StateFault}
use Rattle.lsm_state.specs.declared.state_fault.StateFault.TheVariants as fault
use Rattle.lsm_script.specs.declared.command.Command.{Command}
use Rattle.lsm_script.specs.declared.command.Command.TheVariants as asks
use Rattle.lsm_script.specs.declared.command_fault.CommandFault.{CommandFault}
use Rattle.lsm_script.specs.declared.command_fault.CommandFault.TheVariants.{State, Merge}
use Rattle.lsm_script.specs.declared.reply.Reply.{Reply}
use Rattle.lsm_script.specs.declared.reply.Reply.TheVariants.{Ingested, Value, Absent, Snapshot}
use Rattle.lsm_script.specs.declared.reply.Reply.TheVariants.{Released, Refused}

-- all entries that came in, the latest first; the last sequence; the live snapshots, ids and
-- sequences, the oldest first
pub record History : Type 0 where
  pub entries : List Entry
  pub last : ℕ
  pub snapshots : List (ℕ × ℕ)

-- that of a state: the entries of its tables
abbrev pub history_of : Held → History
history_of h = record {
  entries = all_entries (files h.slots.version);
  last = h.slots.version.last;
  snapshots = h.snapshots.taken;
}

-- the sequence of a read: the last one, or a live snapshot's
abbrev pub IsAt : History → Option ℕ → ℕ → Type 0
IsAt s None q = q ≡ s.last
IsAt s (Some id) q = Has s.snapshots (id, q)

-- over an honest shelf a read at a sequence of the history gives the newest entry that ever came in
-- and that the sequence allows
abbrev pub IsAnswer : Type 0 → History → UserKey → Option ℕ → Option (List ℕ) → Type 0
IsAnswer honest s key at v = (q : ℕ) × IsAt s at q × (honest → v ≡ answer s.entries key q)

-- the snapshot of the read is not live
abbrev pub IsUnknownAt : History → Option ℕ → ℕ → Type 0
IsUnknownAt s None n = ⊥
IsUnknownAt s (Some id) n = (n ≡ id) × (HasId s.snapshots id → ⊥)

-- Why a batch stays out, as far as it and the last sequence tell: it has no entry; its keys do not
-- ascend, this one first; it passes a limit, or a block of its table would; or its last sequence
-- would pass 2^56 - 1. Other refusals are of files, numbers, memory and the shelf.
abbrev pub IsBatchFault : List Write → StateFault → History → Type 0
IsBatchFault ws fault.EmptyBatch s = IsBatchRefusal ws batch.EmptyBatch
IsBatchFault ws (fault.KeyOrder place) s = IsBatchRefusal ws (batch.KeyOrder place)
IsBatchFault ws fault.TooLarge s = IsBatchRefusal ws batch.TooLarge
    ⊎ (IsBatch ws × ((sizes : TableOptions) × PassesTable sizes (entries_from (suc s.last) ws)))
IsBatchFault ws fault.SequencesSpent s = IsBatch ws × (2 ^ 56 ≤ s.last + length ws)
IsBatchFault ws e s = Unit {0}

-- what holds where a command is refused: an ingest for what its batch is; a read or a release for
-- an unknown snapshot only where that is not live
abbrev pub MayRefuse : Command → CommandFault → History → Type 0
MayRefuse (asks.Ingest ws) (State e) s = IsBatchFault ws e s
MayRefuse (asks.Ingest ws) (Merge e) s = ⊥
MayRefuse (asks.Get key at) r s = (n : ℕ) → r ≡ State (fault.UnknownSnapshot n) → IsUnknownAt s at n
MayRefuse (asks.Release id) r s =
    (n : ℕ) → r ≡ State (fault.UnknownSnapshot n) → IsUnknownAt s (Some id) n
MayRefuse c r s = Unit {0}

-- An ingest adds just its batch, under the sequences after the last; a read gives what the history
-- gives; a snapshot is taken, under an id that no live one has, or given up; no other command, and
-- no refused one, changes anything.
abbrev pub IsAnswered : Type 0 → Command → Reply → History → History → Type 0
IsAnswered honest c (Refused r) s t = (t ≡ s) × MayRefuse c r s
IsAnswered honest (asks.Ingest ws) (Ingested r) s t =
    IsBatch ws × (r.first ≡ suc s.last) × (r.last ≡ s.last + length ws)
    × (t ≡ record s {
      entries = entries_from (suc s.last) ws
          ++ s.entries;
      last = s.last + length ws;
    })
IsAnswered honest (asks.Ingest ws) r s t = ⊥
IsAnswered honest (asks.Get key at) (Value v) s t = (t ≡ s) × IsAnswer honest s key at (Some v)
IsAnswered honest (asks.Get key at) Absent s t = (t ≡ s) × IsAnswer honest s key at None
IsAnswered honest (asks.Get key at) r s t = ⊥
IsAnswered honest asks.Snapshot (Snapshot id seq) s t =
    (seq ≡ s.last) × ((p : ℕ × ℕ) → Has s.snapshots p → p.0 < id)
    × (t ≡ record s { snapshots = s.snapshots ++ (id, seq) ∷ [] })
IsAnswered honest asks.Snapshot r s t = ⊥
IsAnswered honest (asks.Release id) Released s t =
    HasId s.snapshots id × (t ≡ record s { snapshots = without_snapshot id s.snapshots })
IsAnswered honest (asks.Release id) r s t = ⊥
IsAnswered honest c r s t = t ≡ s

-- The state has the history's last sequence and snapshots, and over an honest shelf each read that
-- is promised gives what the history gives.
pub record IsOf (honest : Type 0) (s : History) (h : Held) : Type 0 where
  pub last : s.last ≡ h.slots.version.last
  pub snapshots : s.snapshots ≡ h.snapshots.taken
  pub reads : honest → (k : UserKey) (q : ℕ) → IsReadable (plain h) q
      → answer (all_entries (files h.slots.version)) k q ≡ answer s.entries k q
