-- What workers leave of a state, and which facts of it they keep (this project's rule).
use Rattle.std.specs.Prelude.{◌≡◌, ℕ, suc, ◌+◌, ◌==◌, ◌<◌, ◌≤◌, ◌⊎◌, if◌then◌else◌, List, [], ◌∷◌}
use Rattle.std.specs.Prelude.{Option, None, Some, sum_by}
use Rattle.lsm_codec.specs.Lists.{Has}
use Rattle.lsm_model.specs.Runs.{Event, Ingest, Snapshot, Release, Reserve, Cancel, Draw, Install}
use Rattle.lsm_model.specs.Runs.{Gather, Spend, Nothing, Run}
use Rattle.lsm_pins.specs.Known.{Known}
use Rattle.lsm_slots.specs.Slots.{Epoch, HasEpoch, Slotted, current_id}
use Rattle.lsm_state.specs.Collecting.{IsKeptNumber}
use Rattle.lsm_state.specs.Held.{Held, plain}
use Rattle.lsm_state.specs.Installing.{SameAnswers}

-- how often a slot's version is pinned under the lock, where it is the version of this id
abbrev pub pins_in : ℕ → Option Epoch → ℕ
pins_in id None = 0
pins_in id (Some e) = if e.id == id then e.pins else 0

-- how often the version of this id is pinned under the lock; no two slots have one id
abbrev pub pins_of : Slotted → ℕ → ℕ
pins_of s id = sum_by (pins_in id) s.epochs

-- an event of the plain machine that a worker may be
abbrev pub IsOfWorkers : Event → Type 0
IsOfWorkers (Ingest entries) = ⊥
IsOfWorkers Snapshot = ⊥
IsOfWorkers (Release id) = ⊥
IsOfWorkers (Reserve plan job) = Unit {0}
IsOfWorkers (Cancel ticket) = Unit {0}
IsOfWorkers (Draw ticket) = Unit {0}
IsOfWorkers (Install ticket) = Unit {0}
IsOfWorkers Gather = Unit {0}
IsOfWorkers Spend = Unit {0}
IsOfWorkers Nothing = Unit {0}

-- What was found of a state stays: all that came in, the last sequence, the snapshots and the pins
-- under the lock; and over an honest shelf each read that is promised gives what it gave.
pub record IsAsFound (Honest : Type 0) (found h : Held) : Type 0 where
  pub history : h.history ≡ found.history
  pub last : h.slots.version.last ≡ found.slots.version.last
  pub snapshots : h.snapshots ≡ found.snapshots
  pub pins : (id : ℕ) → pins_of h.slots id ≡ pins_of found.slots id
  pub answers : Honest → SameAnswers found h

-- how many versions became current: where a result was installed, or files were gathered
abbrev pub installs_in : List Event → ℕ
installs_in [] = 0
installs_in (Ingest entries ∷ events) = installs_in events
installs_in (Snapshot ∷ events) = installs_in events
installs_in (Release id ∷ events) = installs_in events
installs_in (Reserve plan job ∷ events) = installs_in events
installs_in (Cancel ticket ∷ events) = installs_in events
installs_in (Draw ticket ∷ events) = installs_in events
installs_in (Install ticket ∷ events) = suc (installs_in events)
installs_in (Gather ∷ events) = suc (installs_in events)
installs_in (Spend ∷ events) = installs_in events
installs_in (Nothing ∷ events) = installs_in events

-- On the plain machine the state was reached by reservations, cancels, draws of numbers, installs,
-- gathers and spent numbers alone. Each install and each gather made a version current, under the
-- next id.
pub record IsWorkersRun (Honest : Type 0) (was is : Held) : Type 0 where
  pub events : List Event
  pub only : (e : Event) → Has events e → IsOfWorkers e
  pub run : Run Honest (plain was) events (plain is)
  pub ids : current_id is.slots ≡ current_id was.slots + installs_in events

-- What workers leave of a state that was found: it was reached by what workers do, and what was
-- found stays.
pub record IsLeftByWorkers (Honest : Type 0) (found h : Held) : Type 0 where
  pub reached : ∥ IsWorkersRun Honest found h ∥₁
  pub as_found : IsAsFound Honest found h

-- each version that has a slot had one, or is the current one
abbrev pub AddsCurrentAlone : Slotted → Slotted → Type 0
AddsCurrentAlone old new = (slot : ℕ) (e : Epoch) → HasEpoch new slot e
    → ((at : ℕ) × (f : Epoch) × HasEpoch old at f × (f.version ≡ e.version))
    ⊎ (e.version ≡ new.version)

-- What one taking of the lock by a worker leaves. On the plain machine it is a run of what workers
-- do; what was found stays; and no version gets a slot but the current one.
pub record IsCompactingStep (Honest : Type 0) (was is : Held) : Type 0 where
  pub run : IsWorkersRun Honest was is
  pub options : is.options ≡ was.options
  pub pinners : is.pinners ≡ was.pinners
  pub found : IsAsFound Honest was is
  pub slots : AddsCurrentAlone was.slots is.slots

-- The next file number does not fall; and of the numbers below it none is kept that was not.
pub record KeepsNoMore (was is : Held) : Type 0 where
  pub next : was.next ≤ is.next
  pub kept : (n : ℕ) → n < was.next → IsKeptNumber is n → IsKeptNumber was n

-- each such step keeps the fact
abbrev pub IsKeptByCompaction : Type 0 → (Held → Type 0) → Type 0
IsKeptByCompaction Honest keeps =
    (was is : Held) → IsCompactingStep Honest was is → keeps was → keeps is

-- an end of the board by which this id is the current one
pub record KnowsCurrent (id : ℕ) : Type 0 where
  pub end : Known
  pub current : end.knows.id ≡ id

-- the state that goes into a store: its pinners were taken, and its end of the board has learnt
-- more, under the same current id
abbrev pub IsSeated : Held → Held → Type 0
IsSeated was is = (board : KnowsCurrent (current_id was.slots))
    × (is ≡ record was { pinners = []; slots = record was.slots { board = board.end } })
