-- What lines that are loaded leave of a store, and why they stop (this project's rule).
use Rattle.std.specs.Prelude.{◌≡◌, ◌⊎◌, ℕ, zero, suc, ◌+◌, ◌<◌, ◌^◌, List, [], length, All, Option}
use Rattle.std.specs.Io.KnownBytes.{IsAtEnd}
use Rattle.lsm_shelf.specs.Asked.{Asked}
use Rattle.lsm_shelf.specs.Told.{GivesForks, NotNamed, Place, RefusesFork, Told, forks_behind}
use Rattle.lsm_shelf.specs.declared.shelf_fault.ShelfFault.{ShelfFault}
use Rattle.lsm_codec.specs.Entries.{Entry}
use Rattle.lsm_history.specs.History.{IsLater}
use Rattle.lsm_batch.specs.declared.write.Write.{Write}
use Rattle.lsm_lines.specs.Cuts.{IsCut}
use Rattle.lsm_lines.specs.Gathering.{EndsBy, Gathers, IsGathered, Pending, Stops}
use Rattle.lsm_lines.specs.LastWrites.{KeepsLast}
use Rattle.lsm_lines.specs.declared.gathered.BatchEnd.{BatchEnd}
use Rattle.lsm_lines.specs.declared.gathered.Gathered.{Gathered}
use Rattle.lsm_lines.specs.declared.write_line_fault.WriteLineFault.{WriteLineFault}
use Rattle.lsm_lines.specs.declared.write_line_fault.WriteLineFault.TheVariants as lines
use Rattle.lsm_state.specs.Held.{Held}
use Rattle.lsm_state.specs.declared.ingest.Ingested.{Ingested}
use Rattle.lsm_state.specs.declared.state_fault.StateFault.{StateFault}
use Rattle.lsm_store.specs.Background.{IsBroughtIn, IsKeptOut}
use Rattle.lsm_store.specs.Working.{HaveEndedBeside}
use Rattle.lsm_store.specs.declared.worker_end.WorkerEnd.{WorkerEnd}
use Rattle.lsm_store.specs.declared.worker_fault.WorkerFault.{WorkerFault}
use Rattle.lsm_bulk_load.specs.Coming.{CameIn, ComesNext}
use Rattle.lsm_store.specs.Ends.{IsFaultless, IsFirstFault}
use Rattle.lsm_bulk_load.specs.Marks.{Marked}
use Rattle.lsm_bulk_load.specs.declared.load_fault.LoadFault.{LoadFault}
use Rattle.lsm_bulk_load.specs.declared.load_fault.LoadFault.TheVariants.{OutOfMemory, Shelf, Line}
use Rattle.lsm_bulk_load.specs.declared.load_fault.LoadFault.TheVariants.{Ingest, Other, Worker}
use Rattle.lsm_bulk_load.specs.declared.load_fault.LoadFault.TheVariants.{Due}
use Rattle.lsm_bulk_load.specs.declared.progress.Progress.{Progress}

-- The first lines that were to come, so many, are in: their writes were cut into batches, so many,
-- which came in since the store was found.
pub record Loads (old : Pending) (left : Option (List ℕ)) (held : List Write) (found now : Marked)
    (p : Progress) : Type 0 where
  pub ws : List Write
  pub batches : List (List Write)
  pub cut : IsCut ws batches
  pub came : CameIn found now batches
  pub gathers : Gathers old left held ws
  pub lines : p.lines ≡ length ws
  pub count : p.batches ≡ length batches

-- All lines are in, and nothing is left of the input.
abbrev pub IsLoaded : Pending → Marked → Marked → Progress → Type 0
IsLoaded old found now p = (left : Option (List ℕ)) × Loads old left [] found now p × IsAtEnd left

-- ---- one batch

-- No line was left for a batch, and nothing came in.
abbrev pub NoneCame : List Write → Marked → Marked → Progress → Progress → Type 0
NoneCame ws was now p q = (length ws ≡ 0) × (now ≡ was) × (q ≡ p)

-- The last writes of these came in as one batch.
pub record BatchCame (ws : List Write) (was now : Marked) (p q : Progress) : Type 0 where
  pub batch : List Write
  pub last : KeepsLast ws batch
  pub comes : ComesNext batch was now
  pub lines : q.lines ≡ p.lines + length ws
  pub count : q.batches ≡ p.batches + 1

-- The writes of the next lines were gathered, and came in.
pub record TakesBatch (old new : Pending) (was now : Marked) (p q : Progress) (end : BatchEnd)
    : Type 0 where
  pub ws : List Write
  pub form : new.form ≡ old.form
  pub last_line : new.last ≡ old.last
  pub few : length ws < 2 ^ 64
  pub ends : EndsBy old new ws end
  pub came : NoneCame ws was now p q ⊎ BatchCame ws was now p q

-- ---- what shelves were told

-- So many workers ended so, as they may over forks of these contents, the next ones behind this
-- number, and the one that only gathered over a fork of the last of these: each told just what its
-- worker did.
abbrev pub HaveWorkedBeside : Type 0 → (Asked → ShelfFault → Type 0) → (Held → Type 0) → Place
    → (number workers : ℕ) → List WorkerEnd → Type 0
HaveWorkedBeside Honest Refused keeps place number workers ends =
    HaveEndedBeside Honest Refused keeps (forks_behind place number workers) ends

-- So the workers ended, and none of them early.
abbrev pub HaveEndedWell : (List WorkerEnd → Type 0) → Type 0
HaveEndedWell Ended = (ends : List WorkerEnd) × All IsFaultless ends × Ended ends

-- Just what one ingest of this batch told it, at one taking of the lock, where the fact held: the
-- batch came in, or was refused.
abbrev pub IsToldOf : (Asked → ShelfFault → Type 0) → (Held → Type 0) → List Write → Told → Told
    → Type 0
IsToldOf Refused keeps batch t u = ((r : Ingested × List Entry) × IsBroughtIn keeps batch r t u)
    ⊎ ((e : StateFault) × IsKeptOut Refused keeps batch e t u)

-- Nothing; or just that of the batch that is gathered next of these lines.
abbrev pub IsToldOfNext : (Asked → ShelfFault → Type 0) → (Held → Type 0) → Pending → Told → Told
    → Type 0
IsToldOfNext Refused keeps old t u = (u ≡ t)
    ⊎ ((new : Pending) × (r : Gathered) × IsGathered old new r
    × IsToldOf Refused keeps r.batch t u)

-- Just that of so many batches that may come in, one after another.
abbrev pub AreToldOf : (Asked → ShelfFault → Type 0) → (Held → Type 0) → (List Write → Type 0) → ℕ
    → Told → Told → Type 0
AreToldOf Refused keeps may zero t u = u ≡ t
AreToldOf Refused keeps may (suc n) t u = (mid : Told) × AreToldOf Refused keeps may n t mid
    × ((b : List Write) × may b × IsToldOf Refused keeps b mid u)

-- ... and nothing else.
abbrev pub IsToldOfBatches : (Asked → ShelfFault → Type 0) → (Held → Type 0) → (List Write → Type 0)
    → Told → Told → Type 0
IsToldOfBatches Refused keeps may t u = (n : ℕ) × AreToldOf Refused keeps may n t u

-- ---- refusals

-- Why the batch is not in, and what is in then: the store refused it, of which this fact held, and
-- nothing came in; or it came in, and so did another one between this and the one before.
abbrev pub StaysOut : (Asked → ShelfFault → Type 0) → (Held → Type 0) → List Write
    → (was now : Marked) → LoadFault → Type 0
StaysOut Refused keeps batch was now (Ingest fault) =
    (now ≡ was) × ((t : Told) × (u : Told) × IsKeptOut Refused keeps batch fault t u)
StaysOut Refused keeps batch was now Other = IsLater now.history was.history
StaysOut Refused keeps batch was now fault = ⊥

-- Why the next of these lines are not in, and what is in then: there was no memory for their batch;
-- or it was gathered, and stayed out.
abbrev pub IsNotTaken : (Asked → ShelfFault → Type 0) → (Held → Type 0) → Pending
    → (was now : Marked) → LoadFault → Type 0
IsNotTaken Refused keeps old was now OutOfMemory = now ≡ was
IsNotTaken Refused keeps old was now fault =
    (new : Pending) × (r : Gathered) × IsGathered old new r
    × StaysOut Refused keeps r.batch was now fault

-- just the first lines that were to come are in, so many
abbrev pub SomeAreIn : Pending → (found now : Marked) → Progress → Type 0
SomeAreIn old found now p = (left : Option (List ℕ)) × (held : List Write)
    × Loads old left held found now p

-- these are in, and others came in too
abbrev pub SomeAreInToo : Pending → (found now : Marked) → Progress → Type 0
SomeAreInToo old found now p =
    (then : Marked) × SomeAreIn old found then p × IsLater now.history then.history

-- The line behind those that are in is no write that a batch may have.
abbrev pub StopsBehind : Pending → (found now : Marked) → Progress → WriteLineFault → Type 0
StopsBehind old found now p lines.OutOfMemory = SomeAreIn old found now p
StopsBehind old found now p fault =
    (left : Option (List ℕ)) × Loads old left [] found now p
    × Stops old.form old.last left fault

-- The store refused the batch of the lines behind those that are in.
abbrev pub KeepsNextOut : (Asked → ShelfFault → Type 0) → (Held → Type 0) → Pending
    → (found now : Marked) → Progress → StateFault → Type 0
KeepsNextOut Refused keeps old found now p fault =
    (left : Option (List ℕ)) × (held : List Write) × Loads old left held found now p
    × IsNotTaken Refused keeps
    (record { form = old.form; last = old.last; held = held; left = left }) now now (Ingest fault)

-- Which lines are in a store, up to this mark, and why not all are.
abbrev pub IsStopped : (Asked → ShelfFault → Type 0) → (Held → Type 0) → Pending
    → (found now : Marked) → Progress → LoadFault → Type 0
IsStopped Refused keeps old found now p (Line fault) = StopsBehind old found now p fault
IsStopped Refused keeps old found now p (Ingest fault) =
    KeepsNextOut Refused keeps old found now p fault
IsStopped Refused keeps old found now p OutOfMemory = SomeAreIn old found now p
IsStopped Refused keeps old found now p Other = SomeAreInToo old found now p
IsStopped Refused keeps old found now p (Shelf fault) = ⊥
IsStopped Refused keeps old found now p (Worker fault) = ⊥
IsStopped Refused keeps old found now p Due = ⊥

-- The workers ended so, the first one in their order that has a fault with this one.
abbrev pub EndedBy : (List WorkerEnd → Type 0) → WorkerFault → Type 0
EndedBy Ended fault = (ends : List WorkerEnd) × Ended ends × IsFirstFault fault ends

-- Which lines are in the state behind a load, and why all is not done: nothing began; all lines are
-- in, and a worker had ended early, or something is due; or not all are.
abbrev pub IsUnloaded : (Asked → ShelfFault → Type 0) → (List WorkerEnd → Type 0) → (Held → Type 0)
    → Pending → (found now : Marked) → Progress → LoadFault → Type 0
IsUnloaded Refused Ended keeps old found now p (Shelf fault) =
    NotNamed fault × (now ≡ found) × (p ≡ record { lines = 0; batches = 0 })
IsUnloaded Refused Ended keeps old found now p (Worker fault) =
    IsLoaded old found now p × EndedBy Ended fault
IsUnloaded Refused Ended keeps old found now p Due = IsLoaded old found now p
IsUnloaded Refused Ended keeps old found now p (Line fault) =
    IsStopped Refused keeps old found now p (Line fault)
IsUnloaded Refused Ended keeps old found now p (Ingest fault) =
    IsStopped Refused keeps old found now p (Ingest fault)
IsUnloaded Refused Ended keeps old found now p OutOfMemory =
    IsStopped Refused keeps old found now p OutOfMemory
IsUnloaded Refused Ended keeps old found now p Other =
    IsStopped Refused keeps old found now p Other

-- What its shelf was told then: a fork was refused, and no other was asked for; or none was.
abbrev pub IsForkedFor : (count : ℕ) → LoadFault → Told → Told → Type 0
IsForkedFor count (Shelf fault) old new = RefusesFork count fault old new
IsForkedFor count OutOfMemory old new = GivesForks count old new
IsForkedFor count (Line fault) old new = GivesForks count old new
IsForkedFor count (Ingest fault) old new = GivesForks count old new
IsForkedFor count Other old new = GivesForks count old new
IsForkedFor count (Worker fault) old new = GivesForks count old new
IsForkedFor count Due old new = GivesForks count old new
