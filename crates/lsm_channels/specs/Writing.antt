-- How the writes of a request come in, and why they do not (this project's rule).
use Rattle.std.specs.Prelude.{◌≡◌, ◌⊎◌, List, [], ◌∷◌, ◌++◌, map}
use Rattle.lsm_batch.specs.Batches.{IsTooLarge}
use Rattle.lsm_batch.specs.declared.write.Write.{Write}
use Rattle.lsm_codec.specs.Entries.{Entry}
use Rattle.lsm_frames.specs.Requests.{Written}
use Rattle.lsm_history.specs.History.{IsLater}
use Rattle.lsm_lines.specs.LastWrites.{KeepsLast}
use Rattle.lsm_shelf.specs.Asked.{Asked}
use Rattle.lsm_shelf.specs.Told.{Told}
use Rattle.lsm_shelf.specs.declared.shelf_fault.ShelfFault.{ShelfFault}
use Rattle.lsm_state.specs.Held.{Held}
use Rattle.lsm_state.specs.declared.ingest.Ingested.{Ingested}
use Rattle.lsm_state.specs.declared.state_fault.StateFault.{StateFault}
use Rattle.lsm_state.specs.declared.state_fault.StateFault.TheVariants.{OutOfMemory, TooLarge}
use Rattle.lsm_store.specs.Background.{BringsIn, KeepsOut}

-- a write as a batch has it
abbrev pub write_of : Written → Write
write_of w = record { key = w.key; value = w.value }

abbrev pub writes_of : List Written → List Write
writes_of ws = map write_of ws

-- The batch came in, and this is all that had come in then.
abbrev pub IsIn : (Held → Type 0) → List Write → Ingested → List Entry → Told → Told → Type 0
IsIn keeps batch r all before after =
    (was : Held) × (is : Held) × ∥ keeps was ∥₁ × BringsIn was is batch r before after
    × (all ≡ is.history)

-- The batch was refused.
abbrev pub IsOut : (Asked → ShelfFault → Type 0) → (Held → Type 0) → List Write → StateFault → Told
    → Told → Type 0
IsOut Refused keeps batch e before after =
    (was : Held) × (is : Held) × ∥ keeps was ∥₁ × KeepsOut Refused was is batch e before after

-- Of each key that is written the last write came in, all as one batch. The channel knows all that
-- had come in then.
pub record IsWritten (keeps : Held
    → Type 0) (ws : List Written) (r : Ingested) (knows : List Entry) (before after : Told)
    : Type 0 where
  pub batch : List Write
  pub gathered : KeepsLast (writes_of ws) batch
  pub all : List Entry
  pub brought : IsIn keeps batch r all before after
  pub known : IsLater knows all

-- Why a write is not put behind others: with it they pass a limit of a batch; or memory ran out.
abbrev pub IsPutFault : List Write → Write → StateFault → Type 0
IsPutFault ws w e = ((e ≡ TooLarge) × IsTooLarge (ws ++ w ∷ [])) ⊎ (e ≡ OutOfMemory)

-- The first of the writes pass a limit of a batch; or memory ran out.
abbrev pub IsUngathered : List Written → StateFault → Type 0
IsUngathered ws e = ((e ≡ TooLarge)
    × ((front : List Write) × (back : List Write) × (writes_of ws ≡ front ++ back)
    × IsTooLarge front)) ⊎ (e ≡ OutOfMemory)

-- The batch of the last writes was refused.
pub record IsUnwritten (Refused : Asked → ShelfFault
    → Type 0) (keeps : Held → Type 0) (ws : List Written) (e : StateFault) (before after
    : Told) : Type 0 where
  pub batch : List Write
  pub gathered : KeepsLast (writes_of ws) batch
  pub refused : IsOut Refused keeps batch e before after

-- Why nothing came in: there is no batch of the writes, and the shelf was asked for nothing; or it
-- was refused.
abbrev pub IsWriteFault : (Asked → ShelfFault → Type 0) → (Held → Type 0) → List Written
    → StateFault → Told → Told
    → Type 0
IsWriteFault Refused keeps ws e before after =
    (IsUngathered ws e × (after ≡ before)) ⊎ IsUnwritten Refused keeps ws e before after
