-- What a batch that comes in beside workers finds of the state, and leaves (this project's rule).
use Rattle.std.specs.Prelude.{◌≡◌, ◌↔◌, ◌⊎◌, ◌++◌, List}
use Rattle.lsm_codec.specs.Entries.{Entry}
use Rattle.lsm_codec.specs.Lists.{Has}
use Rattle.lsm_model.specs.Files.{all_entries}
use Rattle.lsm_model.specs.Plain as machine
use Rattle.lsm_version.specs.Versions.{files}
use Rattle.lsm_shelf.specs.Asked.{Asked}
use Rattle.lsm_shelf.specs.Told.{Told}
use Rattle.lsm_shelf.specs.declared.shelf_fault.ShelfFault.{ShelfFault}
use Rattle.lsm_batch.specs.declared.write.Write.{Write}
use Rattle.lsm_state.specs.Asked.{IngestRefused, OnShelf}
use Rattle.lsm_state.specs.Collecting.{SameCounts}
use Rattle.lsm_state.specs.Held.{Held, plain}
use Rattle.lsm_state.specs.Ingesting.{Ingests, IsIngestRefusal, IsWelcome, entries_of}
use Rattle.lsm_state.specs.declared.ingest.Ingested.{Ingested}
use Rattle.lsm_state.specs.declared.state_fault.StateFault.{StateFault}

-- One ingest brought the batch in: all that the state's own contract says of it.
pub record BringsIn (was is : Held) (ws : List Write) (r : Ingested) (t u : Told) : Type 0 where
  pub welcome : IsWelcome was ws
  pub ingests : Ingests was is ws r t u
  pub event : machine.Ingests (plain was) (entries_of was ws) (plain is)
  pub entries : (e : Entry) → Has (all_entries (files is.slots.version)) e
      ↔ (Has (entries_of was ws) e ⊎ Has (all_entries (files was.slots.version)) e)
  pub history : is.history ≡ entries_of was ws ++ was.history
  pub counts : SameCounts t u

-- One ingest was refused: the same.
pub record KeepsOut (Refused : Asked → ShelfFault
    → Type 0) (was is : Held) (ws : List Write) (e : StateFault) (t u : Told) : Type 0 where
  pub refusal : IsIngestRefusal was is ws e t u
  pub asked : OnShelf (IngestRefused Refused was ws) e
  pub event : machine.Spends (plain was) (plain is)
  pub history : is.history ≡ was.history

-- what one ingest leaves of a state, whatever its shelf was told
abbrev pub IsIngestStep : (Asked → ShelfFault → Type 0) → List Write → Held → Held → Type 0
IsIngestStep Refused ws was is =
    ((r : Ingested) × (t : Told) × (u : Told) × BringsIn was is ws r t u)
    ⊎ ((e : StateFault) × (t : Told) × (u : Told) × KeepsOut Refused was is ws e t u)

-- each such step keeps the fact
abbrev pub IsKeptByIngest : (Asked → ShelfFault → Type 0) → List Write → (Held → Type 0) → Type 0
IsKeptByIngest Refused ws keeps =
    (was is : Held) → IsIngestStep Refused ws was is → keeps was → keeps is

-- The batch came in at one taking of the lock, where the fact held; beside the answer stands the
-- history that it left.
abbrev pub IsBroughtIn : (Held → Type 0) → List Write → (Ingested × List Entry) → Told → Told
    → Type 0
IsBroughtIn keeps ws r t u = (was : Held) × (is : Held) × ∥ keeps was ∥₁
    × BringsIn was is ws r.0 t u × (r.1 ≡ is.history)

-- It was refused at one taking of the lock, where the fact held.
abbrev pub IsKeptOut : (Asked → ShelfFault → Type 0) → (Held → Type 0) → List Write → StateFault
    → Told → Told → Type 0
IsKeptOut Refused keeps ws e t u =
    (was : Held) × (is : Held) × ∥ keeps was ∥₁ × KeepsOut Refused was is ws e t u
