-- What a database is to those who use it: all that ever came in, and nothing of tables, jobs and
-- versions (snapshots are LevelDB's, `include/leveldb/db.h`).
use Rattle.std.specs.Prelude.{◌≡◌, ℕ, suc, ◌+◌, ◌<◌, List, [], ◌∷◌, ◌++◌, length}
use Rattle.std.specs.Prelude.{Option, None, Some}
use Rattle.lsm_codec.specs.Entries.{Entry}
use Rattle.lsm_codec.specs.Lists.{Has}
use Rattle.lsm_model.specs.Plain.{without_snapshot}
use Rattle.lsm_batch.specs.Batches.{entries_from}
use Rattle.lsm_batch.specs.declared.write.Write.{Write}
use Rattle.lsm_slots.specs.Snapshots.{HasId}
use Rattle.lsm_state.specs.Held.{Held}
use Rattle.lsm_theorems.specs.Calls.{Call, Ingest, Get, Snapshot, Release}
use Rattle.lsm_theorems.specs.Newest.{IsReadOf}

pub record Database : Type 0 where
  -- the latest first
  pub entries : List Entry
  pub last : ℕ
  -- ids and sequences of the live ones, the oldest first
  pub snapshots : List (ℕ × ℕ)

-- that of a state: its history
abbrev pub database_of : Held → Database
database_of h = record {
  entries = h.history;
  last = h.slots.version.last;
  snapshots = h.snapshots.taken;
}

-- the sequence of a read: the last one, or a live snapshot's
abbrev pub IsAt : Database → Option ℕ → ℕ → Type 0
IsAt d None seq = seq ≡ d.last
IsAt d (Some id) seq = Has d.snapshots (id, seq)

-- with a batch more, each write of it under the next sequence
abbrev pub with_batch : List Write → Database → Database
with_batch ws d = record d {
  entries = entries_from (suc d.last) ws ++ d.entries;
  last = d.last + length ws;
}

-- An ingest adds just its batch; a read gives the newest entry that came in and that its sequence
-- allows; a snapshot is taken, at the last sequence, under an id that no live one has, or given up;
-- no other call, and no refused one, changes anything.
abbrev pub IsAnswered : Type 0 → Call → Database → Database → Type 0
IsAnswered honest (Ingest ws r) d e = (r.first ≡ suc d.last) × (r.last ≡ d.last + length ws)
    × (e ≡ with_batch ws d)
IsAnswered honest (Get key at value) d e = (e ≡ d)
    × ((seq : ℕ) × IsAt d at seq × (honest → IsReadOf d.entries key seq value))
IsAnswered honest (Snapshot id) d e = ((p : ℕ × ℕ) → Has d.snapshots p → p.0 < id)
    × (e ≡ record d { snapshots = d.snapshots ++ (id, d.last) ∷ [] })
IsAnswered honest (Release id) d e = HasId d.snapshots id
    × (e ≡ record d { snapshots = without_snapshot id d.snapshots })
IsAnswered honest call d e = e ≡ d

-- The entries of the batches that calls brought in, in order, over those that were there.
abbrev pub came_in : ℕ → List Call → List Entry → List Entry
came_in last [] es = es
came_in last (Ingest ws r ∷ calls) es =
    came_in (last + length ws) calls (entries_from (suc last) ws ++ es)
came_in last (call ∷ calls) es = came_in last calls es
