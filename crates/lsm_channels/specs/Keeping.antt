-- What a server's lock keeps of a state (this project's rule).
use Rattle.std.specs.Prelude.{◌≡◌, ℕ, List, [], ◌∷◌, Option, None, Some}
use Rattle.lsm_batch.specs.declared.write.Write.{Write}
use Rattle.lsm_codec.specs.Entries.{Entry}
use Rattle.lsm_codec.specs.Lists.{Has}
use Rattle.lsm_frames.specs.Requests.{Asked, IsRequest, Written, Writes, Reads, Scans, Snapshots}
use Rattle.lsm_frames.specs.Requests.{Releases, Compacts, CompactsRange, Collects, Statistics}
use Rattle.lsm_lines.specs.LastWrites.{KeepsLast}
use Rattle.lsm_model.specs.Runs.{Event, Run}
use Rattle.lsm_shelf.specs.Asked as shelf
use Rattle.lsm_shelf.specs.Told.{Told}
use Rattle.lsm_shelf.specs.declared.shelf_fault.ShelfFault.{ShelfFault}
use Rattle.lsm_state.specs.Held.{Held, plain}
use Rattle.lsm_state.specs.declared.ingest.Ingested.{Ingested}
use Rattle.lsm_store.specs.Background.{BringsIn, IsKeptByIngest}
use Rattle.lsm_store.specs.Compacting.{IsOfWorkers, IsSeated}
use Rattle.lsm_channels.specs.Snapshots.{ReleasesAt, TakesAt}
use Rattle.lsm_channels.specs.Writing.{writes_of}

-- What is done without a request, and by all requests but three: on the plain machine it is a run
-- of what workers do, or nothing; and all that had come in is what it was. So nothing comes in, and
-- no snapshot is taken or given up.
pub record IsQuietStep (Honest : Type 0) (was is : Held) : Type 0 where
  pub events : List Event
  pub only : (e : Event) → Has events e → IsOfWorkers e
  pub run : Run Honest (plain was) events (plain is)
  pub history : is.history ≡ was.history

-- What is done by a request that only looks, or removes tables that nothing needs: of the state
-- just who pins which version is another, which the plain machine does not see.
pub record IsLook (was is : Held) : Type 0 where
  pub rest : is ≡ record was { slots = is.slots }
  pub machine : plain is ≡ plain was

-- ---- which facts of a state may be kept

-- Such a step keeps the fact.
abbrev pub IsKeptQuietly : Type 0 → (Held → Type 0) → Type 0
IsKeptQuietly Honest keeps = (was is : Held) → IsQuietStep Honest was is → keeps was → keeps is

-- A look keeps it.
abbrev pub IsKeptByLooks : (Held → Type 0) → Type 0
IsKeptByLooks keeps = (was is : Held) → IsLook was is → keeps was → keeps is

-- The batch of the last ones of these writes keeps it, where it comes in and where it is refused.
abbrev pub IsKeptByWrites : (shelf.Asked → ShelfFault → Type 0) → List Written → (Held → Type 0)
    → Type 0
IsKeptByWrites Refused ws keeps =
    (batch : List Write) → KeepsLast (writes_of ws) batch → IsKeptByIngest Refused batch keeps

-- Each snapshot that is taken keeps it.
abbrev pub IsKeptByTakes : (Held → Type 0) → Type 0
IsKeptByTakes keeps =
    (was is : Held) (number sequence : ℕ) → TakesAt was is number sequence → keeps was → keeps is

-- The release of the snapshot of this number keeps it.
abbrev pub IsKeptByRelease : ℕ → (Held → Type 0) → Type 0
IsKeptByRelease number keeps = (was is : Held) → ReleasesAt was is number → keeps was → keeps is

-- What is done for a request keeps it: looks, its batch, what it says of a snapshot, or what
-- workers do. So by no other request than to compact anything is done that workers do.
abbrev pub IsKeptByAsked : Type 0 → (shelf.Asked → ShelfFault → Type 0) → Asked → (Held → Type 0)
    → Type 0
IsKeptByAsked Honest Refused (Writes ws) keeps =
    IsKeptByLooks keeps × IsKeptByWrites Refused ws keeps
IsKeptByAsked Honest Refused (Reads when keys) keeps = IsKeptByLooks keeps
IsKeptByAsked Honest Refused (Scans s) keeps = IsKeptByLooks keeps
IsKeptByAsked Honest Refused Snapshots keeps = IsKeptByTakes keeps
IsKeptByAsked Honest Refused (Releases number) keeps = IsKeptByRelease number keeps
IsKeptByAsked Honest Refused Compacts keeps = IsKeptQuietly Honest keeps
IsKeptByAsked Honest Refused (CompactsRange b) keeps = IsKeptQuietly Honest keeps
IsKeptByAsked Honest Refused Collects keeps = IsKeptByLooks keeps
IsKeptByAsked Honest Refused Statistics keeps = IsKeptByLooks keeps

-- Each request that may come keeps it.
abbrev pub IsKeptByRequests : Type 0 → (shelf.Asked → ShelfFault → Type 0)
    → (gives : List ℕ → Type 0) → (Held → Type 0) → Type 0
IsKeptByRequests Honest Refused gives keeps =
    (content : List ℕ) (asked : Asked) → gives content → IsRequest content asked
    → IsKeptByAsked Honest Refused asked keeps

-- ---- what is known by it

-- This is all that had come in in a state of which the fact held.
abbrev pub IsKnown : (Held → Type 0) → List Entry → Type 0
IsKnown keeps known = (h : Held) × ∥ keeps h ∥₁ × (known ≡ h.history)

-- ---- the fact of a server

-- A request that may come asks for this.
pub record IsAskedFor (gives : List ℕ → Type 0) (asked : Asked) : Type 0 where
  pub content : List ℕ
  pub given : gives content
  pub request : IsRequest content asked

-- What was asked for was done to the state: a batch of the last writes came in, a snapshot was
-- taken, or one was given up.
abbrev pub IsDone : Asked → (was is : Held) → Type 0
IsDone (Writes ws) was is = (batch : List Write) × KeepsLast (writes_of ws) batch
    × ((r : Ingested) × (t : Told) × (u : Told) × BringsIn was is batch r t u)
IsDone (Reads when keys) was is = ⊥
IsDone (Scans s) was is = ⊥
IsDone Snapshots was is = (number : ℕ) × (sequence : ℕ) × TakesAt was is number sequence
IsDone (Releases number) was is = ReleasesAt was is number
IsDone Compacts was is = ⊥
IsDone (CompactsRange b) was is = ⊥
IsDone Collects was is = ⊥
IsDone Statistics was is = ⊥

-- One step: a quiet one; or that was done which is asked for.
abbrev pub IsStep : Type 0 → (gives : List ℕ → Type 0) → Option Asked → Held → Held → Type 0
IsStep Honest gives None was is = IsQuietStep Honest was is
IsStep Honest gives (Some asked) was is = IsAskedFor gives asked × IsDone asked was is

-- Such steps, the latest first, from the state that was put behind the lock.
abbrev pub AreSteps : Type 0 → (gives : List ℕ → Type 0) → List (Option Asked) → Held → Held
    → Type 0
AreSteps Honest gives [] found h = IsSeated found h
AreSteps Honest gives (step ∷ older) found h =
    (mid : Held) × AreSteps Honest gives older found mid × IsStep Honest gives step mid h

-- The state came from the one that was found by such steps: what came in since was asked for, each
-- batch of it, and so was each snapshot that was taken or given up.
abbrev pub HasComeTo : Type 0 → (gives : List ℕ → Type 0) → (found h : Held) → Type 0
HasComeTo Honest gives found h = (steps : List (Option Asked))
    × AreSteps Honest gives steps found h
