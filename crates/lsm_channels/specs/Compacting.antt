-- What a compaction comes to (this project's rule).
use Rattle.std.specs.Prelude.{◌≡◌, ⊤, ◌⊎◌, ℕ, zero, suc, ◌+◌, true, List, [], ◌∷◌, None, Some}
use Rattle.lsm_codec.specs.Entries.{Entry}
use Rattle.lsm_frames.specs.Requests.{Between}
use Rattle.lsm_live.specs.Reserving.{reserved_jobs}
use Rattle.lsm_picker.specs.Choice.{HasNoChoice}
use Rattle.lsm_picker.specs.Manual as manual
use Rattle.lsm_shelf.specs.Asked.{Asked}
use Rattle.lsm_shelf.specs.Told.{Becomes, Counted, ForkedTimes, NotNamed, Place, Told, fork_at}
use Rattle.lsm_shelf.specs.declared.shelf_fault.ShelfFault.{ShelfFault}
use Rattle.lsm_state.specs.Held.{Held}
use Rattle.lsm_state.specs.declared.state_fault.StateFault.{StateFault}
use Rattle.lsm_state.specs.declared.state_fault.StateFault.TheVariants.{OutOfMemory, Shelf}
use Rattle.lsm_store.specs.Workers.{IsOfReserving, IsOfTurn}
use Rattle.lsm_store.specs.Working.{HaveEnded, given_one}
use Rattle.lsm_channels.specs.Served.{IsLent}
use Rattle.lsm_store.specs.declared.picks.Picks.{Picks}
use Rattle.lsm_store.specs.declared.picks.Picks.TheVariants.{Choice, Gathering, Joining}
use Rattle.lsm_store.specs.declared.picks.Picks.TheVariants.{Manual}
use Rattle.lsm_store.specs.declared.worker_end.WorkerEnd.{WorkerEnd}
use Rattle.lsm_store.specs.declared.worker_fault.WorkerFault.{WorkerFault}
use Rattle.lsm_store.specs.declared.worker_fault.WorkerFault.TheVariants.{NoThread, State, Merge}
use Rattle.lsm_version.specs.Versions.{Levels}

-- There is no compaction to choose, beside the jobs at hand.
abbrev pub IsSettled : Held → Type 0
IsSettled h = HasNoChoice h.slots.version (reserved_jobs h.live)

-- So it was, over an honest shelf, at a taking of the lock, of the state that it gave, which has
-- all that the channel knew.
abbrev pub IsCompacted : Type 0 → (Held → Type 0) → (knew knows : List Entry) → Type 0
IsCompacted Honest keeps knew knows =
    (h : Held) × IsLent keeps h knew knows × (Honest → IsSettled h)

-- The worker that looked had no thread, or no shelf; or it ended by such a refusal as a worker
-- meets.
abbrev pub IsCompactFault : Type 0 → WorkerFault → Type 0
IsCompactFault honest NoThread = ⊤
IsCompactFault honest (State fault) = IsOfTurn honest (State fault)
IsCompactFault honest (Merge fault) = IsOfTurn honest (Merge fault)

-- ---- a range

-- What is picked is the range of these keys, over the files of the version: down to the deepest
-- level of which a file meets it.
abbrev pub AimsAt : Levels → Between → Picks → Type 0
AimsAt v b Choice = ⊥
AimsAt v b Joining = ⊥
AimsAt v b Gathering = ⊥
AimsAt v b (Manual s) = manual.IsToClear v (Some b.from) b.to s

-- So it was at a taking of the lock, of the state that it gave, which has all that the channel
-- knew.
abbrev pub IsAimed : (Held → Type 0) → Between → Picks → (knew knows : List Entry) → Type 0
IsAimed keeps b picks knew knows =
    (h : Held) × IsLent keeps h knew knows × AimsAt h.slots.version b picks

-- no file of the version is left of a range that is picked, at its levels
abbrev pub HasNoneOf : Levels → Picks → Type 0
HasNoneOf v Choice = ⊥
HasNoneOf v Joining = ⊥
HasNoneOf v Gathering = ⊥
HasNoneOf v (Manual s) = manual.IsCleared v s

-- So it was at a taking of the lock, of the state that it gave, which has all that the channel
-- knew.
abbrev pub IsCleared : (Held → Type 0) → Picks → (knew knows : List Entry) → Type 0
IsCleared keeps picks knew knows =
    (h : Held) × IsLent keeps h knew knows × HasNoneOf h.slots.version picks

-- ---- by whom

-- One worker more compacted what is picked until it found nothing, or ended by a fault. It had the
-- next fork of the shelf, to which nothing was told before, and did just that with it.
pub record IsWorkedBy (Honest : Type 0) (Refused : Asked → ShelfFault → Type 0) (keeps : Held
    → Type 0) (picks : Picks) (e : WorkerEnd) (was is : Told) : Type 0 where
  pub forked : ForkedTimes 1 was is
  pub place : Place
  pub ended : HaveEnded Honest Refused keeps
      (given_one picks true (fork_at place (was.forks + 1)) ∷ []) (e ∷ [])

-- so many, one after another, each of which ended without a fault
abbrev pub AreWorkedBy : Type 0 → (Asked → ShelfFault → Type 0) → (Held → Type 0) → Picks → ℕ
    → (was is : Told) → Type 0
AreWorkedBy Honest Refused keeps picks zero was is = is ≡ was
AreWorkedBy Honest Refused keeps picks (suc count) was is =
    (mid : Told) × AreWorkedBy Honest Refused keeps picks count was mid
    × ((e : WorkerEnd) × (e.fault ≡ None) × IsWorkedBy Honest Refused keeps picks e mid is)

-- Why there is no next one, or it is the last: its own fault; the shelf gave it no fork; there was
-- no memory for it, and its fork was let go; or the look behind those before was refused.
abbrev pub IsLastWorker : Type 0 → (Asked → ShelfFault → Type 0) → (Held → Type 0) → Picks
    → WorkerFault → (was is : Told) → Type 0
IsLastWorker Honest Refused keeps picks fault was is =
    ((e : WorkerEnd) × (e.fault ≡ Some fault) × IsWorkedBy Honest Refused keeps picks e was is)
    ⊎ (((why : ShelfFault) × (fault ≡ State (Shelf why)) × NotNamed why × Counted why was is
    × Becomes was is)
    ⊎ (((fault ≡ State OutOfMemory) × ForkedTimes 1 was is)
    ⊎ ((why : StateFault) × (fault ≡ State why) × IsOfReserving why × (is ≡ was))))

-- All that the shelf was told by a compaction that is done.
abbrev pub Works : Type 0 → (Asked → ShelfFault → Type 0) → (Held → Type 0) → Picks
    → (was is : Told) → Type 0
Works Honest Refused keeps picks was is =
    (count : ℕ) × AreWorkedBy Honest Refused keeps picks count was is

-- And by one that is refused.
abbrev pub StopsWorking : Type 0 → (Asked → ShelfFault → Type 0) → (Held → Type 0) → Picks
    → WorkerFault → (was is : Told) → Type 0
StopsWorking Honest Refused keeps picks fault was is =
    (mid : Told) × Works Honest Refused keeps picks was mid
    × IsLastWorker Honest Refused keeps picks fault mid is

-- ---- all of a range

-- The range of these keys was picked, over the files of one state that the lock gave; workers
-- compacted it; and in a later one no file of it was left at its levels. Both have all that the
-- channel knew.
abbrev pub ClearsRange : Type 0 → (Asked → ShelfFault → Type 0) → (Held → Type 0) → Between
    → (knew knows : List Entry) → (was is : Told) → Type 0
ClearsRange Honest Refused keeps b knew knows was is =
    (picks : Picks) × (mid : List Entry) × IsAimed keeps b picks knew mid
    × IsCleared keeps picks mid knows × Works Honest Refused keeps picks was is

-- There was no memory for what is picked, and the shelf was asked for nothing; or it was picked, and
-- its workers were refused.
abbrev pub StopsRange : Type 0 → (Asked → ShelfFault → Type 0) → (Held → Type 0) → Between
    → WorkerFault → (knew : List Entry) → (was is : Told) → Type 0
StopsRange Honest Refused keeps b fault knew was is =
    ((fault ≡ State OutOfMemory) × (is ≡ was))
    ⊎ ((picks : Picks) × (mid : List Entry) × IsAimed keeps b picks knew mid
    × StopsWorking Honest Refused keeps picks fault was is)
