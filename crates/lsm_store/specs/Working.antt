-- What a worker does with its shelf, and what its shelf was told when it ends (this project's
-- rule).
use Rattle.std.specs.Prelude.{◌≡◌, ℕ, suc, ◌-◌, ◌^◌, ◌≤◌, min, ◌⊎◌, List, [], ◌∷◌, ◌++◌, map}
use Rattle.std.specs.Prelude.{Bool, true, false, Option, None, Some}
use Rattle.lsm_codec.specs.Lists.{Has}
use Rattle.lsm_shelf.specs.Asked.{Asked, Put, StartManifest, AppendManifest}
use Rattle.lsm_shelf.specs.Told.{Told, Becomes, Counted}
use Rattle.lsm_shelf.specs.declared.shelf_fault.ShelfFault.{ShelfFault}
use Rattle.lsm_table.specs.ReadFault.{ReadCounted}
use Rattle.lsm_merge.specs.Causes.{HasCause, NamesTicket}
use Rattle.lsm_merge.specs.Inputs.{IsReadable, input_numbers}
use Rattle.lsm_merge.specs.Outputs.{PutsEach, putting_all}
use Rattle.lsm_merge.specs.Work.{Done, IsFinished, Work, puts_by}
use Rattle.lsm_merge.specs.declared.merge_fault.InputFault.TheVariants.{Read, OutOfOrder}
use Rattle.lsm_merge.specs.declared.merge_fault.OutputFault.TheVariants as output
use Rattle.lsm_merge.specs.declared.merge_fault.MergeFault.{MergeFault}
use Rattle.lsm_merge.specs.declared.merge_fault.MergeFault.TheVariants as merge
use Rattle.lsm_state.specs.Asked.{InstallRefused, OnShelf}
use Rattle.lsm_state.specs.Collecting.{SameCounts}
use Rattle.lsm_state.specs.Gathering.{GatherRefused, Gathers, HasNoneToGather, IsGatherRefusal}
use Rattle.lsm_state.specs.Held.{Held}
use Rattle.lsm_state.specs.Installing.{Installed, IsInstallRefusal, MayInstall}
use Rattle.lsm_state.specs.declared.gather_fault.GatherFault.{GatherFault}
use Rattle.lsm_state.specs.declared.state_fault.StateFault.{StateFault}
use Rattle.lsm_state.specs.declared.state_fault.StateFault.TheVariants as state
use Rattle.lsm_store.specs.Picking.{DoesGather, IsBooked, IsPicked, IsPickedUnder}
use Rattle.lsm_store.specs.Sweeping.{AreLent, IsBroughtBack}
use Rattle.lsm_store.specs.WorkerFault.{of_gather}
use Rattle.lsm_store.specs.Workers.{IsOfReserving}
use Rattle.lsm_store.specs.declared.picks.Picks.{Picks}
use Rattle.lsm_store.specs.declared.picks.Picks.TheVariants.{Gathering, Joining}
use Rattle.lsm_store.specs.declared.look.Look.{Look}
use Rattle.lsm_store.specs.declared.look.Look.TheVariants as look
use Rattle.lsm_store.specs.declared.turn.Turn.{Turn}
use Rattle.lsm_store.specs.declared.turn.Turn.TheVariants.{Gathered, Compacted}
use Rattle.lsm_store.specs.declared.worker_end.WorkerEnd.{WorkerEnd}
use Rattle.lsm_store.specs.declared.worker_fault.WorkerFault.{WorkerFault}
use Rattle.lsm_store.specs.declared.worker_fault.WorkerFault.TheVariants.{NoThread, State, Merge}

-- ---- what a worker is given

-- its shelf, as it was told; which jobs it gets; and whether it goes on until there is none
pub record Given : Type 0 where
  pub shelf : Told
  pub picks : Picks
  pub to_the_end : Bool

abbrev pub given_one : Picks → Bool → Told → Given
given_one picks to_the_end t = record { shelf = t; picks = picks; to_the_end = to_the_end }

-- so with each of these shelves
abbrev pub given_each : Picks → Bool → List Told → List Given
given_each picks to_the_end ts = map (λ t. given_one picks to_the_end t) ts

-- ---- one compaction

-- A job was finished. The shelf was told to put just its outputs, in their order, and of a move
-- nothing.
pub record IsMerged (Honest : Type 0) (d : Done) (was is : Told) : Type 0 where
  pub finished : IsFinished Honest d
  pub told : Becomes (putting_all (puts_by d) was) is

-- The state installed the result.
pub record TakesIn (old new : Held) (d : Done) (was is : Told) : Type 0 where
  pub may : MayInstall old d
  pub installed : Installed old new d was is
  pub counts : SameCounts was is

-- So it was at one taking of the lock, where the fact held.
pub record IsTaken (keeps : Held → Type 0) (d : Done) (was is : Told) : Type 0 where
  pub old : Held
  pub new : Held
  pub kept : ∥ keeps old ∥₁
  pub takes : TakesIn old new d was is

-- A job was finished, and its result installed.
pub record IsDone (Honest : Type 0) (keeps : Held → Type 0) (work : Work) (was is : Told)
    : Type 0 where
  pub result : Done
  pub its : result.work ≡ work
  pub put : Told
  pub merged : IsMerged Honest result was put
  pub taken : IsTaken keeps result put is

-- One compaction: a job that a worker who picks so gets was finished, and its result installed.
pub record IsCompaction (Honest : Type 0) (keeps : Held → Type 0) (picks : Picks) (was is : Told)
    : Type 0 where
  pub work : Work
  pub picked : IsPickedUnder Honest keeps picks (Some work)
  pub done : IsDone Honest keeps work was is

-- ---- one gather

-- Files of level 0 became one at one taking of the lock, where the fact held.
pub record GathersUnder (Honest : Type 0) (keeps : Held → Type 0) (picks : Picks) (was is : Told)
    : Type 0 where
  pub does : DoesGather picks
  pub old : Held
  pub new : Held
  pub kept : ∥ keeps old ∥₁
  pub number : ℕ
  pub gathers : Gathers Honest old new number was is

-- ---- looks

-- What a worker did at one look at the state: it gathered files of level 0; or there was nothing to
-- be gathered, and it reserved what is picked, if there is that, and its shelf was told nothing.
abbrev pub IsLook : {N S R : Type 0} → Type 0 → Picks → Held → Held → Look N S R → Told → Told
    → Type 0
IsLook Honest picks old new look.Gathered was is =
    DoesGather picks × ((number : ℕ) × Gathers Honest old new number was is)
IsLook Honest picks old new (look.Reserved work) was is =
    (DoesGather picks → HasNoneToGather old) × (Honest → IsPicked picks old (Some work))
    × IsBooked (Some work) old new × (is ≡ was)
IsLook Honest picks old new look.Nothing was is =
    (DoesGather picks → HasNoneToGather old) × (Honest → IsPicked picks old None)
    × IsBooked None old new × (is ≡ was)

-- So it was at one taking of the lock, where the fact held.
abbrev pub LooksUnder : {N S R : Type 0} → Type 0 → (Held → Type 0) → Picks → Look N S R → Told
    → Told → Type 0
LooksUnder Honest keeps picks look.Gathered was is = GathersUnder Honest keeps picks was is
LooksUnder Honest keeps picks (look.Reserved work) was is =
    IsPickedUnder Honest keeps picks (Some work) × (is ≡ was)
LooksUnder Honest keeps picks look.Nothing was is =
    IsPickedUnder Honest keeps picks None × (is ≡ was)

-- ---- turns

-- what a worker did in one turn: it gathered; or there was nothing to be gathered, and it compacted
abbrev pub IsTurn : Type 0 → (Held → Type 0) → Picks → Turn → Told → Told → Type 0
IsTurn Honest keeps picks Gathered was is = GathersUnder Honest keeps picks was is
IsTurn Honest keeps picks Compacted was is = IsCompaction Honest keeps picks was is

-- one turn after another, of which the last is told first
abbrev pub Turns : Type 0 → (Held → Type 0) → Picks → List Turn → Told → Told → Type 0
Turns Honest keeps picks [] was is = is ≡ was
Turns Honest keeps picks (turn ∷ turns) was is =
    (mid : Told) × Turns Honest keeps picks turns was mid × IsTurn Honest keeps picks turn mid is

-- how many of them were compactions
abbrev pub compactions : List Turn → ℕ
compactions [] = 0
compactions (Gathered ∷ turns) = compactions turns
compactions (Compacted ∷ turns) = suc (compactions turns)

-- at one look there was nothing for a worker who picks so
abbrev pub FindsNone : Type 0 → (Held → Type 0) → Picks → Type 0
FindsNone Honest keeps picks = IsPickedUnder Honest keeps picks None

-- ---- what ends a worker

-- A job was not finished: some outputs were put, and the fault has its cause.
pub record IsUnmerged (Honest : Type 0) (e : MergeFault) (was is : Told) : Type 0 where
  pub work : Work
  pub put : List ℕ
  pub told : PutsEach put was is
  pub cause : HasCause (input_numbers work) e was is
  pub ticket : NamesTicket e work.ticket
  pub readable : Honest → IsReadable e

-- The state refused to install the result, and the shelf wrote nothing. Where it was the shelf,
-- other than for want of memory, it refused the write of the manifest.
pub record LeavesOut (Refused : Asked → ShelfFault
    → Type 0) (old new : Held) (d : Done) (e : StateFault) (was is : Told) : Type 0 where
  pub refusal : IsInstallRefusal old new d e was is
  pub asked : OnShelf (InstallRefused Refused old d) e
  pub unsent : Becomes was is

-- So it was at one taking of the lock, where the fact held.
pub record IsUntaken (Refused : Asked → ShelfFault → Type 0) (keeps : Held
    → Type 0) (d : Done) (e : StateFault) (was is : Told) : Type 0 where
  pub old : Held
  pub new : Held
  pub kept : ∥ keeps old ∥₁
  pub leaves : LeavesOut Refused old new d e was is

-- The state refused: a reservation, and the shelf was asked for nothing; or the install of a job
-- that was finished.
abbrev pub IsRefusedBy : Type 0 → (Asked → ShelfFault → Type 0) → (Held → Type 0) → StateFault
    → Told → Told → Type 0
IsRefusedBy Honest Refused keeps e was is =
    (IsOfReserving e × (is ≡ was))
    ⊎ ((d : Done) × (put : Told) × IsMerged Honest d was put
    × IsUntaken Refused keeps d e put is)

-- A compaction was not done: the state refused, or its job was not finished.
abbrev pub IsUndone : Type 0 → (Asked → ShelfFault → Type 0) → (Held → Type 0) → WorkerFault
    → Told → Told → Type 0
IsUndone Honest Refused keeps NoThread was is = ⊥
IsUndone Honest Refused keeps (State fault) was is = IsRefusedBy Honest Refused keeps fault was is
IsUndone Honest Refused keeps (Merge fault) was is = IsUnmerged Honest fault was is

-- Files were not gathered at one taking of the lock, where the fact held.
pub record FailsToGather (Honest : Type 0) (Refused : Asked → ShelfFault → Type 0) (keeps : Held
    → Type 0) (picks : Picks) (e : GatherFault) (was is : Told) : Type 0 where
  pub does : DoesGather picks
  pub old : Held
  pub new : Held
  pub kept : ∥ keeps old ∥₁
  pub refusal : IsGatherRefusal Honest old new e was is
  pub asked : GatherRefused Refused old e

-- The refusal that ended a worker with a thread, after its last turn: of a compaction, or of a
-- gather.
abbrev pub IsStoppedBy : Type 0 → (Asked → ShelfFault → Type 0) → (Held → Type 0) → Picks
    → WorkerFault → Told → Told → Type 0
IsStoppedBy Honest Refused keeps picks e was is = IsUndone Honest Refused keeps e was is
    ⊎ ((fault : GatherFault) × (e ≡ of_gather fault)
    × FailsToGather Honest Refused keeps picks fault was is)

-- A look was refused: a reservation, and the state was left and the shelf asked for nothing; or
-- files were not gathered.
abbrev pub IsLookRefused : Type 0 → (Asked → ShelfFault → Type 0) → Picks → Held → Held
    → WorkerFault → Told → Told → Type 0
IsLookRefused Honest Refused picks old new e was is =
    ((fault : StateFault) × (e ≡ State fault) × IsOfReserving fault × (new ≡ old) × (is ≡ was))
    ⊎ ((fault : GatherFault) × (e ≡ of_gather fault) × DoesGather picks
    × IsGatherRefusal Honest old new fault was is × GatherRefused Refused old fault)

-- Why a worker with a thread ended, after its last turn: a refusal; or none, and where it was to go
-- on to the end, it found nothing.
abbrev pub IsLast : Type 0 → (Asked → ShelfFault → Type 0) → (Held → Type 0) → Given
    → Option WorkerFault → Told → Told → Type 0
IsLast Honest Refused keeps given None was is =
    (is ≡ was) × (given.to_the_end ≡ true → FindsNone Honest keeps given.picks)
IsLast Honest Refused keeps given (Some fault) was is =
    IsStoppedBy Honest Refused keeps given.picks fault was is

-- A worker ended with this shelf: it took turns, one after another, with as many compactions as it
-- says, and then did what ended it; and its shelf was told no more.
pub record IsWorked (Honest : Type 0) (Refused : Asked → ShelfFault → Type 0) (keeps : Held
    → Type 0) (given : Given) (e : WorkerEnd) (back : Told) : Type 0 where
  pub turns : List Turn
  pub counted : e.installed ≡ min (compactions turns) (2 ^ 64 - 1)
  pub mid : Told
  pub done : Turns Honest keeps given.picks turns given.shelf mid
  pub last : IsLast Honest Refused keeps given e.fault mid back

-- What comes back of a shelf that was given to a worker: nothing where its thread could not be
-- made, and it has done nothing; else the shelf that it ended with.
abbrev pub IsReturned : Type 0 → (Asked → ShelfFault → Type 0) → (Held → Type 0) → Given
    → WorkerEnd → Option Told → Type 0
IsReturned Honest Refused keeps given e None = (e.installed ≡ 0) × (e.fault ≡ Some NoThread)
IsReturned Honest Refused keeps given e (Some back) = IsWorked Honest Refused keeps given e back

-- of each shelf, in their order
abbrev pub AreReturned : Type 0 → (Asked → ShelfFault → Type 0) → (Held → Type 0) → List Given
    → List (WorkerEnd × Option Told) → Type 0
AreReturned Honest Refused keeps [] [] = Unit {0}
AreReturned Honest Refused keeps [] (r ∷ rs) = ⊥
AreReturned Honest Refused keeps (t ∷ ts) [] = ⊥
AreReturned Honest Refused keeps (t ∷ ts) (r ∷ rs) =
    IsReturned Honest Refused keeps t r.0 r.1 × AreReturned Honest Refused keeps ts rs

-- the same, where the shelves that came back were let go, and the ends alone are left
abbrev pub HaveEnded : Type 0 → (Asked → ShelfFault → Type 0) → (Held → Type 0) → List Given
    → List WorkerEnd → Type 0
HaveEnded Honest Refused keeps given ends = (returned : List (WorkerEnd × Option Told))
    × (ends ≡ map (λ r. r.0) returned) × AreReturned Honest Refused keeps given returned

-- ---- beside a body

-- what comes back of a worker that only gathers: nothing where there was no shelf for it
abbrev pub HasGathered : Type 0 → (Asked → ShelfFault → Type 0) → (Held → Type 0) → Option Told
    → Option (WorkerEnd × Option Told) → Type 0
HasGathered Honest Refused keeps None None = Unit {0}
HasGathered Honest Refused keeps None (Some r) = ⊥
HasGathered Honest Refused keeps (Some shelf) None = ⊥
HasGathered Honest Refused keeps (Some shelf) (Some r) =
    IsReturned Honest Refused keeps (given_one Gathering false shelf) r.0 r.1

-- What comes back of workers that gather and join, one over each of these shelves; of the one that
-- only gathers, and of the thread that sweeps, each over a fork of the last of them.
pub record AreReturnedBeside (Honest : Type 0) (Refused : Asked → ShelfFault → Type 0) (keeps : Held
    → Type 0) (shelves : List Told) (returned : List (WorkerEnd × Option Told)) (gathered
    : Option (WorkerEnd × Option Told)) (swept : Option Told) : Type 0 where
  pub lent : List Told
  pub broom : Option Told
  pub fork : Option Told
  pub forks : AreLent shelves lent broom fork
  pub each : AreReturned Honest Refused keeps (given_each Joining false lent) returned
  pub gathers : HasGathered Honest Refused keeps fork gathered
  pub sweeps : IsBroughtBack Refused keeps broom swept

-- the end of a worker that had a thread, and none of one that had not, or that was not
abbrev pub end_of : Option (WorkerEnd × Option Told) → List WorkerEnd
end_of None = []
end_of (Some (e, None)) = []
end_of (Some (e, Some back)) = e ∷ []

-- the same, where all shelves were let go: the ends of the workers over these, and behind them that
-- of the one which only gathered
pub record HaveEndedBeside (Honest : Type 0) (Refused : Asked → ShelfFault → Type 0) (keeps : Held
    → Type 0) (shelves : List Told) (ends : List WorkerEnd) : Type 0 where
  pub returned : List (WorkerEnd × Option Told)
  pub gathered : Option (WorkerEnd × Option Told)
  pub swept : Option Told
  pub ends_are : ends ≡ map (λ r. r.0) returned ++ end_of gathered
  pub are : AreReturnedBeside Honest Refused keeps shelves returned gathered swept

-- ---- what follows

-- where the fault is the shelf's, a count rose
abbrev pub IsCounted : WorkerFault → Told → Told → Type 0
IsCounted NoThread was is = Unit {0}
IsCounted (State (state.Shelf fault)) was is = Counted fault was is
IsCounted (State e) was is = Unit {0}
IsCounted (Merge merge.OutOfMemory) was is = Unit {0}
IsCounted (Merge (merge.ReadFailed number (Read fault))) was is = ReadCounted fault was is
IsCounted (Merge (merge.ReadFailed number OutOfOrder)) was is = Unit {0}
IsCounted (Merge (merge.PutFailed number output.TooLarge)) was is = Unit {0}
IsCounted (Merge (merge.PutFailed number (output.Shelf fault))) was is = Counted fault was is
IsCounted (Merge (merge.UnknownTicket ticket)) was is = Unit {0}
IsCounted (Merge merge.NumbersSpent) was is = Unit {0}

abbrev pub IsCountedIf : Option WorkerFault → Told → Told → Type 0
IsCountedIf None was is = Unit {0}
IsCountedIf (Some fault) was is = IsCounted fault was is

-- a call that puts a table or writes the manifest
abbrev pub IsPutOrSent : Asked → Type 0
IsPutOrSent (Put number image) = Unit {0}
IsPutOrSent (StartManifest number bytes) = Unit {0}
IsPutOrSent (AppendManifest bytes) = Unit {0}
IsPutOrSent asked = ⊥

-- Tables were put and the manifest was written, and that is all: nothing was removed or listed, no
-- manifest was read, and no fork was given. Counts do not fall.
pub record OnlyPutsAndSends (was is : Told) : Type 0 where
  pub place : is.place ≡ was.place
  pub gone : is.gone ≡ was.gone
  pub listed : is.listed ≡ was.listed
  pub found : is.found ≡ was.found
  pub forks : is.forks ≡ was.forks
  pub faults : was.faults ≤ is.faults
  pub misses : was.misses ≤ is.misses
  pub calls : List Asked
  pub made : is.made ≡ calls ++ was.made
  pub each : (a : Asked) → Has calls a → IsPutOrSent a
