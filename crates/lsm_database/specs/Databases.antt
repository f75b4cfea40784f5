-- What the calls of a database leave and answer (this project's rule; the calls are those of
-- LevelDB's `include/leveldb/db.h`).
use Rattle.std.specs.Prelude.{◌≡◌, ◌⊎◌, ℕ, List, Option, take}
use Rattle.lsm_codec.specs.Entries.{Entry, answer}
use Rattle.lsm_history.specs.History.{IsLater}
use Rattle.lsm_model.specs.Files.{all_entries}
use Rattle.lsm_model.specs.Runs.{Agrees}
use Rattle.lsm_model.specs.Scanning.{IsScan, Pair}
use Rattle.lsm_iterators.specs.Seeking.{at_or_past}
use Rattle.lsm_shelf.specs.Asked.{Asked}
use Rattle.lsm_shelf.specs.Told.{Becomes, IsUntoldFork, Told}
use Rattle.lsm_shelf.specs.declared.shelf_fault.ShelfFault.{ShelfFault}
use Rattle.lsm_table.specs.ReadFault.{IsMemoryOrShelf, ReadCounted}
use Rattle.lsm_table.specs.declared.read_fault.ReadFault.{ReadFault}
use Rattle.lsm_reader.specs.Refusals.{IsSomeReadRefusal}
use Rattle.lsm_version.specs.Versions.{files}
use Rattle.lsm_batch.specs.declared.write.Write.{Write}
use Rattle.lsm_state.specs.Held.{Held, plain}
use Rattle.lsm_state.specs.declared.ingest.Ingested.{Ingested}
use Rattle.lsm_state.specs.declared.state_fault.StateFault.{StateFault}
use Rattle.lsm_state.specs.declared.state_fault.StateFault.TheVariants.{OutOfMemory}
use Rattle.lsm_store.specs.Background.{BringsIn, KeepsOut}

-- What contracts see of a database: all that it knows to have come in, the latest first; and what
-- was told by the shelf that it writes to, and by the one that it reads from.
pub record Seen : Type 0 where
  pub known : List Entry
  pub told : Told
  pub read : Told

abbrev pub seen : List Entry → Told → Told → Seen
seen known told read = record { known = known; told = told; read = read }

-- Its shelves are forks, to which nothing was told yet.
abbrev pub IsUntold : Seen → Type 0
IsUntold d = IsUntoldFork d.told × IsUntoldFork d.read

-- A state that is lent has all that was known, and all that had come in in it is known then. Over
-- an honest shelf none of that is later than its last sequence, and each read of it that is
-- promised gives what it gives over that.
pub record IsLent (Honest : Type 0) (h : Held) (knew knows : List Entry) : Type 0 where
  pub later : IsLater h.history knew
  pub known : knows ≡ h.history
  pub agrees : Honest → Agrees (plain h) h.history

-- ---- what comes in

-- The writes came in, on a state that had all that was known: just their entries are known in front
-- of what that state had.
pub record ComesIn (ws : List Write) (r : Ingested) (d e : Seen) : Type 0 where
  pub was : Held
  pub is : Held
  pub later : IsLater was.history d.known
  pub came : BringsIn was is ws r d.told e.told
  pub known : e.known ≡ is.history
  pub read : e.read ≡ d.read

-- A state that had all that was known kept them out.
pub record StaysOut (Refused : Asked → ShelfFault → Type 0) (ws : List Write) (fault : StateFault)
    (d e : Seen) : Type 0 where
  pub was : Held
  pub is : Held
  pub later : IsLater was.history d.known
  pub refused : KeepsOut Refused was is ws fault d.told e.told
  pub known : e.known ≡ is.history
  pub read : e.read ≡ d.read

-- memory ran out before the store was asked; or it kept them out
abbrev pub IsUnwritten : (Asked → ShelfFault → Type 0) → List Write → StateFault → Seen → Seen
    → Type 0
IsUnwritten Refused ws fault d e =
    ((fault ≡ OutOfMemory) × (e ≡ d)) ⊎ StaysOut Refused ws fault d e

-- ---- what is read

-- A read was made of the version of a state that was lent, by the shelf from which the database
-- reads, and by no other.
pub record Reads (Honest : Type 0) (lent : Held) (d e : Seen) : Type 0 where
  pub has : IsLent Honest lent d.known e.known
  pub told : e.told ≡ d.told
  pub read : Becomes d.read e.read

-- The value of a key, or none: over an honest shelf that of its newest entry in the version of the
-- state, and in all that had come in.
pub record Finds (Honest : Type 0) (key : List ℕ) (v : Option (List ℕ)) (d e : Seen)
    : Type 0 where
  pub lent : Held
  pub reads : Reads Honest lent d e
  pub version : Honest
      → v ≡ answer (all_entries (files lent.slots.version)) key lent.slots.version.last
  pub history : Honest → v ≡ answer e.known key lent.slots.version.last

-- The first keys at or past this one that have a value, each with it, ascending, up to so many:
-- over an honest shelf those in all that had come in.
pub record Shows (Honest : Type 0) (from : List ℕ) (limit : ℕ) (pairs : List Pair) (d e : Seen)
    : Type 0 where
  pub lent : Held
  pub reads : Reads Honest lent d e
  pub shown : Honest → (all : List Pair)
      × IsScan lent.slots.version.last (at_or_past from e.known) all × (pairs ≡ take limit all)

-- Why a read is refused: a table could not be read. Over an honest shelf its bytes are not what is
-- wrong.
pub record IsUnread (Honest : Type 0) (Refused : Asked → ShelfFault → Type 0) (fault : ReadFault)
    (d e : Seen) : Type 0 where
  pub lent : Held
  pub reads : Reads Honest lent d e
  pub sound : Honest → IsMemoryOrShelf fault
  pub refused : IsSomeReadRefusal Refused fault
  pub counted : ReadCounted fault d.read e.read
