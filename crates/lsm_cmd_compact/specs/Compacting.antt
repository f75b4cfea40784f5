-- What a `compact` leaves, and why it is refused (this project's rule).
use Rattle.std.specs.Prelude.{◌≡◌, ◌≢◌, ◌<◌, ℕ, zero, suc, ◌-◌, ◌⊎◌, Bool, List}
use Rattle.std.specs.Prelude.{length, All, IsFalse, IsTrue, Option, None, Some, Err}
use Rattle.std.specs.Prelude.{true}
use Rattle.std.specs.Io.KnownBytes.{Appends, Keeps}
use Rattle.atomic_table.specs.Seated.{TableId}
use Rattle.lsm_codec.specs.Entries.{answer}
use Rattle.lsm_codec.specs.Keys.{UserKey}
use Rattle.lsm_shelf.specs.Asked.{Asked, ReadManifest}
use Rattle.lsm_shelf.specs.declared.shelf_fault.ShelfFault.{ShelfFault}
use Rattle.lsm_shelf.specs.declared.shelf_fault.ShelfFault.TheVariants as shelf_faults
use Rattle.lsm_shelf.specs.Told.{Place, Told, Becomes, CountedBy, ForkedAtMost, ForkedTimes}
use Rattle.lsm_shelf.specs.Told.{NotNamed, NotTaken, finding, forks_behind}
use Rattle.lsm_manifest.specs.Shape.{Form}
use Rattle.lsm_journal.specs.HeldManifest.{HeldManifest}
use Rattle.lsm_journal.specs.Recovering.{IsRecovered, IsRecoverRefusal, RecoverCounted}
use Rattle.lsm_journal.specs.declared.recover_fault.RecoverFault.{RecoverFault}
use Rattle.lsm_directory.specs.declared.faults.directory_fault.DirectoryFault.TheVariants.{TornManifest}
use Rattle.lsm_model.specs.Files.{all_entries}
use Rattle.lsm_version.specs.Versions.{Levels, files}
use Rattle.lsm_picker.specs.Joining.{Span}
use Rattle.lsm_picker.specs.Manual.{IsCleared, IsToClear}
use Rattle.lsm_slots.specs.Slots.{current_id}
use Rattle.lsm_state.specs.Collecting.{SameCounts}
use Rattle.lsm_state.specs.Held.{Held}
use Rattle.lsm_state.specs.declared.state_fault.StateFault.{StateFault}
use Rattle.lsm_store.specs.Compacting.{IsLeftByWorkers}
use Rattle.lsm_store.specs.Ends.{IsFaultless, IsFirstFault}
use Rattle.lsm_store.specs.Workers.{IsWorkersEnd}
use Rattle.lsm_store.specs.Working.{HaveEnded, given_each}
use Rattle.lsm_requests.specs.declared.compact_options.CompactOptions.{CompactOptions}
use Rattle.lsm_requests.specs.declared.compact_range.CompactRange.{CompactRange}
use Rattle.lsm_store.specs.declared.picks.Picks.{Picks}
use Rattle.lsm_store.specs.declared.picks.Picks.TheVariants.{Choice, Gathering, Joining}
use Rattle.lsm_store.specs.declared.picks.Picks.TheVariants.{Manual}
use Rattle.lsm_store.specs.declared.worker_end.WorkerEnd.{WorkerEnd}
use Rattle.lsm_store.specs.declared.worker_fault.WorkerFault.{WorkerFault}
use Rattle.lsm_opening.specs.Compactions.{IsSwept, Refuses, installed_text}
use Rattle.lsm_opening.specs.Starting.{IsOpeningRefusal, Opens}
use Rattle.lsm_opening.specs.WriterFault.{of_manifest, of_shelf}
use Rattle.lsm_opening.specs.declared.faults.writer_fault.WriterFault.{WriterFault}
use Rattle.lsm_opening.specs.declared.faults.writer_fault.WriterFault.TheVariants.{Directory}
use Rattle.lsm_opening.specs.declared.faults.writer_fault.WriterFault.TheVariants.{OutOfMemory}
use Rattle.lsm_opening.specs.declared.faults.writer_fault.WriterFault.TheVariants.{State}
use Rattle.lsm_opening.specs.declared.faults.writer_fault.WriterFault.TheVariants.{Write as WriteFault}
use Rattle.lsm_opening.specs.declared.faults.compact_fault.CompactFault.{CompactFault}
use Rattle.lsm_opening.specs.declared.faults.compact_fault.CompactFault.TheVariants.{Writer, Worker}
use Rattle.lsm_opening.specs.declared.faults.compact_fault.CompactFault.TheVariants.{OtherManifest}

-- ---- the manifest's end

-- The manifest was read, and nothing else was asked for; so many bytes at its end hold no whole
-- record.
pub record EndsWith (rest : ℕ) (was is : Told) : Type 0 where
  pub held : HeldManifest
  pub shape : Form
  pub recovered : IsRecovered held shape rest
  pub told : Becomes (finding held.number held.bytes was) is

-- Before anything is written: any end is accepted, and the shelf was asked for nothing; or the
-- manifest ends with a whole record. A longer one may name tables that this one does not.
abbrev pub IsAccepted : Bool → Told → Told → Type 0
IsAccepted accepts was is =
    (IsTrue accepts × (is ≡ was)) ⊎ (IsFalse accepts × EndsWith 0 was is)

-- Not any end is accepted, and the manifest could not be read, or ends with such bytes.
abbrev pub IsUnaccepted : (Asked → ShelfFault → Type 0) → Bool → CompactFault → Told → Told → Type 0
IsUnaccepted Refused accepts e was is =
    IsFalse accepts
    × (((fault : RecoverFault) × (e ≡ Writer (of_manifest fault))
    × IsRecoverRefusal Refused fault was is × RecoverCounted fault was is)
    ⊎ ((rest : ℕ) × (0 < rest) × (e ≡ Writer (Directory (TornManifest rest)))
    × EndsWith rest was is))

-- ---- workers

-- So many workers ended, each as workers do that pick so and go on to the end. They had the next
-- forks of a shelf whose last one had this number, one each; and to its fork nothing was told but
-- what this worker did: jobs that it finished, each with its outputs, and the installs of their
-- results, in states of which the fact held.
pub record AreEnds (Refused : Asked → ShelfFault → Type 0) (Honest : Type 0) (keeps : Held
    → Type 0) (place : Place) (number workers : ℕ) (picks : Picks) (ends : List WorkerEnd)
    : Type 0 where
  pub count : length ends ≡ workers
  pub each : All (λ e. IsWorkersEnd Honest e) ends
  pub ended : HaveEnded Honest Refused keeps
      (given_each picks true (forks_behind place number workers)) ends

-- One round: the shelf gave so many forks, refused nothing, and was told nothing else; and so many
-- workers ended that had these forks.
pub record IsRound (Refused : Asked → ShelfFault → Type 0) (Honest : Type 0) (keeps : Held
    → Type 0) (place : Place) (workers : ℕ) (picks : Picks) (ends : List WorkerEnd) (was is : Told)
    : Type 0 where
  pub forked : ForkedTimes workers was is
  pub counts : SameCounts was is
  pub ends_are : AreEnds Refused Honest keeps place was.forks workers picks ends

-- one in which none of them has a fault
abbrev pub IsFaultlessRound : (Asked → ShelfFault → Type 0) → Type 0 → (Held → Type 0) → Place
    → (workers : ℕ) → Picks → (was is : Told) → Type 0
IsFaultlessRound Refused Honest keeps place workers picks was is =
    (ends : List WorkerEnd) × All IsFaultless ends
    × IsRound Refused Honest keeps place workers picks ends was is

-- one in which the first of them that has a fault has this one
abbrev pub IsFaultyRound : (Asked → ShelfFault → Type 0) → Type 0 → (Held → Type 0) → Place
    → (workers : ℕ) → Picks → CompactFault → (was is : Told) → Type 0
IsFaultyRound Refused Honest keeps place workers picks e was is = (fault : WorkerFault)
    × (e ≡ Worker fault) × ((ends : List WorkerEnd) × IsFirstFault fault ends
    × IsRound Refused Honest keeps place workers picks ends was is)

-- at one moment, in a state of which the fact held, files were left of the range at its levels
abbrev pub IsUnclearedUnder : (Held → Type 0) → Span → Type 0
IsUnclearedUnder keeps s =
    (h : Held) × ∥ keeps h ∥₁ × (IsCleared h.slots.version s → ⊥)

-- Why there is one more round: files were left of a range that is picked. Where none is there is no
-- other round.
abbrev pub IsLeftOver : (Held → Type 0) → Picks → Type 0
IsLeftOver keeps Choice = ⊥
IsLeftOver keeps Joining = ⊥
IsLeftOver keeps Gathering = ⊥
IsLeftOver keeps (Manual s) = IsUnclearedUnder keeps s

-- so many faultless ones, one after another, behind each of which there is one more
abbrev pub AreRounds : (Asked → ShelfFault → Type 0) → Type 0 → (Held → Type 0) → Place
    → (workers : ℕ) → Picks → (count : ℕ) → (was is : Told) → Type 0
AreRounds Refused Honest keeps place workers picks zero was is = is ≡ was
AreRounds Refused Honest keeps place workers picks (suc count) was is =
    (mid : Told) × AreRounds Refused Honest keeps place workers picks count was mid
    × IsFaultlessRound Refused Honest keeps place workers picks mid is × IsLeftOver keeps picks

-- Behind so many rounds there was a last one, faultless too.
abbrev pub EndsRounds : (Asked → ShelfFault → Type 0) → Type 0 → (Held → Type 0) → Place
    → (workers : ℕ) → Picks → (was is : Told) → Type 0
EndsRounds Refused Honest keeps place workers picks was is = (count : ℕ)
    × (mid : Told) × AreRounds Refused Honest keeps place workers picks count was mid
    × IsFaultlessRound Refused Honest keeps place workers picks mid is

-- There were no workers for a round: the shelf refused a fork, and counted a fault of the device
-- once; or memory ran out for what comes of them, and it counted none. It gave as many forks as
-- there are workers at most, and was told nothing else.
pub record IsUnmanned (workers : ℕ) (e : CompactFault) (was is : Told) : Type 0 where
  pub fault : ShelfFault
  pub its : e ≡ Writer (of_shelf fault)
  pub cause : NotNamed fault
  pub forked : ForkedAtMost workers was is
  pub counts : CountedBy {T = Unit {0}} (Err fault) was is

-- Behind so many rounds there were no workers for one more; or it was the last, for a fault.
abbrev pub StopsBehindRounds : (Asked → ShelfFault → Type 0) → Type 0 → (Held → Type 0) → Place
    → (workers : ℕ) → Picks → CompactFault → (was is : Told) → Type 0
StopsBehindRounds Refused Honest keeps place workers picks e was is =
    (count : ℕ) × (mid : Told) × AreRounds Refused Honest keeps place workers picks count was mid
    × (IsUnmanned workers e mid is
    ⊎ IsFaultyRound Refused Honest keeps place workers picks e mid is)

-- how many versions were made current between two states of a database: where workers alone changed
-- it, so many results were installed, or files gathered
abbrev pub installed_between : Held → Held → ℕ
installed_between found left = current_id left.slots - current_id found.slots

-- ---- what a database shows

-- the newest answer of a user key: at the last sequence
abbrev pub newest : Held → UserKey → Option (List ℕ)
newest h k = answer (all_entries (files h.slots.version)) k h.slots.version.last

-- What a compaction leaves of the state that was opened: workers alone changed it; all that had
-- come in, the last sequence, the snapshots and the pins are as they were found; and over an honest
-- shelf each user key shows what it showed.
pub record LeavesAll (Honest : Type 0) (found left : Held) : Type 0 where
  pub by_workers : IsLeftByWorkers Honest found left
  pub shows : Honest → (k : UserKey) → newest left k ≡ newest found k

-- ---- a range

-- at one moment, in a state of which the fact held, no file was left of the range at its levels
abbrev pub IsClearedUnder : (Held → Type 0) → Span → Type 0
IsClearedUnder keeps s = (h : Held) × ∥ keeps h ∥₁ × IsCleared h.slots.version s

-- So it was of the range that was asked for, if one was, over the files of the state found.
abbrev pub Clears : (Held → Type 0) → Held → Option CompactRange → Type 0
Clears keeps found None = Unit {0}
Clears keeps found (Some r) =
    (s : Span) × IsToClear found.slots.version r.from r.to s × IsClearedUnder keeps s

-- what workers pick, where a range is asked for or is not
abbrev pub IsAimed : Levels → Option CompactRange → Picks → Type 0
IsAimed v None Choice = Unit {0}
IsAimed v None Joining = ⊥
IsAimed v None Gathering = ⊥
IsAimed v None (Manual s) = ⊥
IsAimed v (Some r) Choice = ⊥
IsAimed v (Some r) Joining = ⊥
IsAimed v (Some r) Gathering = ⊥
IsAimed v (Some r) (Manual s) = IsToClear v r.from r.to s

-- All that the shelf was told by workers that are done: rounds of as many as options say, which
-- picked what these ask for.
abbrev pub Works : (Asked → ShelfFault → Type 0) → Type 0 → (Held → Type 0) → Place → Held
    → CompactOptions → (was is : Told) → Type 0
Works Refused Honest keeps place found options was is = (picks : Picks)
    × IsAimed found.slots.version options.range picks
    × EndsRounds Refused Honest keeps place options.workers picks was is

-- No memory for the range that was asked for: the shelf was told nothing.
pub record IsUnaimed (options : CompactOptions) (e : CompactFault) (was is : Told) : Type 0 where
  pub its : e ≡ Writer (of_shelf shelf_faults.OutOfMemory)
  pub ranged : options.range ≢ None
  pub told : is ≡ was

-- And where they are not: there was no memory for what they pick; or behind rounds was no next one,
-- or a worker had a fault.
abbrev pub StopsWorking : (Asked → ShelfFault → Type 0) → Type 0 → (Held → Type 0) → Place → Held
    → CompactOptions → CompactFault → (was is : Told) → Type 0
StopsWorking Refused Honest keeps place found options e was is =
    IsUnaimed options e was is
    ⊎ ((picks : Picks) × IsAimed found.slots.version options.range picks
    × StopsBehindRounds Refused Honest keeps place options.workers picks e was is)

-- no file was left of a range that is picked
abbrev pub IsClearedBy : (Held → Type 0) → Picks → Type 0
IsClearedBy keeps Choice = Unit {0}
IsClearedBy keeps Joining = Unit {0}
IsClearedBy keeps Gathering = Unit {0}
IsClearedBy keeps (Manual s) = IsClearedUnder keeps s

-- ---- what the shelf was told

-- The directory was opened as this state, which has this board.
pub record IsOpened (Honest : Type 0) (board : TableId) (found : Held) (was is : Told)
    : Type 0 where
  pub opened : Opens Honest found was is
  pub on : found.slots.board.board ≡ board

-- The manifest was read, and is the one that this state holds: so what it comes to is this state's
-- version.
pub record IsNamed (left : Held) (was is : Told) : Type 0 where
  pub told : Becomes (finding left.journal.number left.journal.bytes was) is
  pub counts : SameCounts was is

-- The directory was opened. Workers took what is chosen, in one round, or what a range asks for,
-- round by round, and none ended with a fault; the shelf gave forks for them, and no other. Of a
-- range that was asked for no file was left at its levels. The state left has the board of the one
-- opened, of which all is left, and so many results were installed between both. The manifest that
-- was read then is the one that it holds, and what nothing names was removed.
pub record Compacts (Refused : Asked → ShelfFault
    → Type 0) (Honest : Type 0) (options : CompactOptions) (installed : ℕ) (was is : Told)
    : Type 0 where
  pub board : TableId
  pub found : Held
  pub left : Held
  pub begun : Told
  pub opened : IsOpened Honest board found was begun
  pub ended : Told
  pub worked : Works Refused Honest (IsLeftByWorkers Honest found) was.place found options
      begun ended
  pub cleared : Clears (IsLeftByWorkers Honest found) found options.range
  pub leaves : LeavesAll Honest found left
  pub count : installed ≡ installed_between found left
  pub read : Told
  pub named : IsNamed left ended read
  pub swept : IsSwept Honest board left read is

-- That was done, and how many results were installed was written.
abbrev pub DoesCompact : (Asked → ShelfFault → Type 0) → Type 0 → CompactOptions → Told → Told
    → Option (List ℕ) → Option (List ℕ) → Type 0
DoesCompact Refused Honest options was is old new =
    (installed : ℕ) × Compacts Refused Honest options installed was is
    × Appends old new (installed_text installed)

-- The manifest's end was accepted, and then that was done.
abbrev pub IsCompacted : (Asked → ShelfFault → Type 0) → Type 0 → CompactOptions → Told → Told
    → Option (List ℕ) → Option (List ℕ) → Type 0
IsCompacted Refused Honest options was is old new =
    (mid : Told) × IsAccepted options.accepts_rest was mid
    × DoesCompact Refused Honest options mid is old new

-- ---- refusals

-- Memory ran out before the shelf was asked for anything.
abbrev pub IsOutOfMemory : CompactFault → Told → Told → Type 0
IsOutOfMemory e was is = (e ≡ Writer OutOfMemory) × (is ≡ was)

-- The directory was not opened.
abbrev pub IsUnopened : (ℕ → List ℕ → Type 0) → (Asked → ShelfFault → Type 0) → Type 0
    → CompactFault → Told → Told → Type 0
IsUnopened Stored Refused Honest e was is = (fault : WriterFault) × (e ≡ Writer fault)
    × IsOpeningRefusal Stored Refused Honest fault was is

-- The directory was opened, workers were not done, and nothing was removed.
pub record IsUnfinished (Refused : Asked → ShelfFault
    → Type 0) (Honest : Type 0) (options : CompactOptions) (e : CompactFault) (was is : Told)
    : Type 0 where
  pub board : TableId
  pub found : Held
  pub begun : Told
  pub opened : IsOpened Honest board found was begun
  pub stopped : StopsWorking Refused Honest (IsLeftByWorkers Honest found) was.place found options
      e begun is

-- The shelf refused to read the manifest, which it counted once, but for want of memory.
pub record IsUnread (Refused : Asked → ShelfFault → Type 0) (fault : ShelfFault) (was is : Told)
    : Type 0 where
  pub cause : NotTaken fault
  pub asked : Refused ReadManifest fault
  pub told : Becomes was is
  pub counts : CountedBy {T = Unit {0}} (Err fault) was is

-- It read a manifest that is not the one that this state holds.
pub record IsOther (left : Held) (was is : Told) : Type 0 where
  pub number : ℕ
  pub bytes : List ℕ
  pub other : (number ≡ left.journal.number) × (bytes ≡ left.journal.bytes) → ⊥
  pub told : Becomes (finding number bytes was) is
  pub counts : SameCounts was is

-- The manifest that this state holds was not found, and nothing was removed.
abbrev pub IsUnnamed : (Asked → ShelfFault → Type 0) → Held → CompactFault → Told → Told → Type 0
IsUnnamed Refused left e was is =
    ((fault : ShelfFault) × (e ≡ Writer (of_shelf fault)) × IsUnread Refused fault was is)
    ⊎ ((e ≡ OtherManifest) × IsOther left was is)

-- Why this state does not sweep: its manifest was not found; or it was, and the collect was
-- refused.
abbrev pub StopsSweeping : (Asked → ShelfFault → Type 0) → Type 0 → TableId → Held → CompactFault
    → Told → Told → Type 0
StopsSweeping Refused Honest board left e was is =
    IsUnnamed Refused left e was is
    ⊎ ((fault : StateFault) × (read : Told) × (e ≡ Writer (State fault)) × IsNamed left was read
    × Refuses Refused Honest board left fault read is)

-- Workers were done, and of a range that was asked for no file was left at its levels. Nothing or
-- not all was removed, by a state with the board of the one opened, of which all is left.
pub record IsUnswept (Refused : Asked → ShelfFault
    → Type 0) (Honest : Type 0) (options : CompactOptions) (e : CompactFault) (was is : Told)
    : Type 0 where
  pub board : TableId
  pub found : Held
  pub left : Held
  pub begun : Told
  pub opened : IsOpened Honest board found was begun
  pub ended : Told
  pub worked : Works Refused Honest (IsLeftByWorkers Honest found) was.place found options
      begun ended
  pub cleared : Clears (IsLeftByWorkers Honest found) found options.range
  pub leaves : LeavesAll Honest found left
  pub stops : StopsSweeping Refused Honest board left e ended is

-- All was done, and the reply was not written.
abbrev pub IsUntold : (Asked → ShelfFault → Type 0) → Type 0 → CompactOptions → CompactFault → Told
    → Told → Type 0
IsUntold Refused Honest options e was is =
    (e ≡ Writer WriteFault) × ((installed : ℕ) × Compacts Refused Honest options installed was is)

-- What stops a compaction once the manifest's end was accepted.
abbrev pub StopsCompacting : (ℕ → List ℕ → Type 0) → (Asked → ShelfFault → Type 0) → Type 0
    → CompactOptions → CompactFault → Told → Told → Type 0
StopsCompacting Stored Refused Honest options e was is =
    IsUnopened Stored Refused Honest e was is
    ⊎ (IsUnfinished Refused Honest options e was is
    ⊎ (IsUnswept Refused Honest options e was is
    ⊎ IsUntold Refused Honest options e was is))

-- What a fault says.
abbrev pub IsCompactFault : (ℕ → List ℕ → Type 0) → (Asked → ShelfFault → Type 0) → Type 0
    → CompactOptions → CompactFault → Told → Told → Type 0
IsCompactFault Stored Refused Honest options e was is =
    IsOutOfMemory e was is
    ⊎ (IsUnaccepted Refused options.accepts_rest e was is
    ⊎ ((mid : Told) × IsAccepted options.accepts_rest was mid
    × StopsCompacting Stored Refused Honest options e mid is))

-- What a refusal is: what the fault says; and, unless a write failed, nothing was written on
-- standard output.
pub record IsNotCompacted (Stored : ℕ → List ℕ → Type 0) (Refused : Asked → ShelfFault
    → Type 0) (Honest : Type 0) (options : CompactOptions) (fault : CompactFault) (was is : Told)
    (old new : Option (List ℕ)) : Type 0 where
  pub says : IsCompactFault Stored Refused Honest options fault was is
  pub left : fault ≢ Writer WriteFault → Keeps old new
