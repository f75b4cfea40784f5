-- How channels are served (docs/PROTOCOL.md, this project's rule).
use Rattle.std.specs.Prelude.{◌≡◌, ◌⊎◌, ⊤, ℕ, zero, suc, ◌+◌, ◌*◌, ℤ, pos, Bool, true, false, List}
use Rattle.std.specs.Prelude.{[], ◌∷◌, ◌++◌, length, Option, None, Some}
use Rattle.std.specs.List.{list_all}
use Rattle.std.specs.Option.{is_some}
use Rattle.lsm_frames.specs.Answers.{Nothing}
use Rattle.lsm_frames.specs.Requests.{Asked}
use Rattle.lsm_shelf.specs.Asked as shelf
use Rattle.lsm_shelf.specs.declared.shelf_fault.ShelfFault.{ShelfFault}
use Rattle.lsm_shelf.specs.Told.{Forked, ForkedTimes, IsUntoldFork, NotNamed, Place, Told, fork_at}
use Rattle.lsm_state.specs.Held.{Held}
use Rattle.lsm_state.specs.declared.options.Options.{Options}
use Rattle.lsm_state.specs.declared.state_fault.StateFault.TheVariants as state
use Rattle.lsm_directory.specs.declared.folder.folder_file.FolderFile.{FolderFile}
use Rattle.lsm_opening.specs.Starting.{IsOutOfMemory, IsStartedWith, IsStartRefusalWith}
use Rattle.lsm_opening.specs.WriterFault.{of_shelf}
use Rattle.lsm_opening.specs.declared.faults.writer_fault.WriterFault.{WriterFault}
use Rattle.lsm_opening.specs.declared.faults.writer_fault.WriterFault.TheVariants.{OutOfMemory}
use Rattle.lsm_opening.specs.declared.prepared.Start.{Start}
use Rattle.lsm_wire.specs.Conversing.{IsConversation}
use Rattle.lsm_wire.specs.Happenings.{Happening, IsUnanswered, IsWritten}
use Rattle.lsm_channels.specs.Answered.{done_frame, refusal_frame}
use Rattle.lsm_channels.specs.Answering.{IsAnswered}
use Rattle.lsm_channels.specs.Keeping.{HasComeTo, IsKnown}
use Rattle.lsm_channels.specs.Served.{Served}

-- The frame answers what is asked, as `IsAnswered` has it; and all that is known then had come in
-- in a state of which the lock's fact held.
abbrev pub Answers : Type 0 → (shelf.Asked → ShelfFault → Type 0) → (Held → Type 0) → Asked
    → (before after : Served) → (frame : List ℕ) → Type 0
Answers Honest Refused keeps asked before after frame =
    IsAnswered Honest Refused keeps asked before after frame × IsKnown keeps after.known

-- ---- one channel

-- A session that took no snapshot, whose shelf is a fork to which nothing was told yet, and which
-- knows what had come in in a state of which the lock's fact held.
pub record IsFresh (keeps : Held → Type 0) (session : Served) : Type 0 where
  pub known : IsKnown keeps session.known
  pub none : session.taken ≡ []
  pub untold : IsUntoldFork session.shelf

-- By a fresh session the channel conversed, and that is all that happened behind this.
pub record IsServed (Honest : Type 0) (Refused : shelf.Asked → ShelfFault → Type 0) (keeps : Held
    → Type 0) (was is : List Happening) : Type 0 where
  pub begun : Served
  pub fresh : IsFresh keeps begun
  pub ended : Served
  pub conversed : IsConversation (Answers Honest Refused keeps) begun ended was is

-- ---- the first channel, over which it is said that the database is open

-- It was said that the database is open and each channel is served; or, where a thread could not be
-- made, that memory was refused. The channel goes on where the first was said, and taken whole.
abbrev pub SaysOpen : (made goes_on : Bool) → (was is : List Happening) → Type 0
SaysOpen true goes_on was is =
    IsWritten (done_frame Nothing) goes_on was is ⊎ IsUnanswered goes_on was is
SaysOpen false goes_on was is =
    (goes_on ≡ false) × ((whole : Bool)
    × (IsWritten (refusal_frame state.OutOfMemory) whole was is ⊎ IsUnanswered whole was is))

-- What goes on is served; and nothing more happens to what does not.
abbrev pub IsServedOn : Type 0 → (shelf.Asked → ShelfFault → Type 0) → (Held → Type 0)
    → (goes_on : Bool) → (was is : List Happening) → Type 0
IsServedOn Honest Refused keeps true was is = IsServed Honest Refused keeps was is
IsServedOn Honest Refused keeps false was is = is ≡ was

abbrev pub IsServedFirst : Type 0 → (shelf.Asked → ShelfFault → Type 0) → (Held → Type 0)
    → (made : Bool) → (was is : List Happening) → Type 0
IsServedFirst Honest Refused keeps made was is =
    (goes_on : Bool) × (mid : List Happening) × SaysOpen made goes_on was mid
    × IsServedOn Honest Refused keeps goes_on mid is

-- ---- all channels

-- what contracts see of a wire: the number of its descriptor, and what happened at it
pub record End : Type 0 where
  pub descriptor : ℤ
  pub happened : List Happening

abbrev pub end : ℤ → List Happening → End
end descriptor happened = record { descriptor = descriptor; happened = happened }

-- so many, with the numbers from this one on, at which nothing has happened
abbrev pub ends_from : (first count : ℕ) → List End
ends_from first zero = []
ends_from first (suc count) = ends_from first count ++ end (pos (first + count)) [] ∷ []

-- so many descriptors of which a wire was made, from this one on, the last one first
abbrev pub opened_from : (first count : ℕ) → List ℤ
opened_from first zero = []
opened_from first (suc count) = pos (first + count) ∷ opened_from first count

-- The wire comes back of which this holds, or none does: its thread could not be made.
abbrev pub IsBack : (List Happening → List Happening → Type 0) → End → Option End → Type 0
IsBack Serves w None = ⊤
IsBack Serves w (Some r) = (r.descriptor ≡ w.descriptor) × Serves w.happened r.happened

-- of each wire, in their order
abbrev pub AreBack : (List Happening → List Happening → Type 0) → List End → List (Option End)
    → Type 0
AreBack Serves [] [] = ⊤
AreBack Serves [] (r ∷ rs) = ⊥
AreBack Serves (w ∷ ws) [] = ⊥
AreBack Serves (w ∷ ws) (r ∷ rs) = IsBack Serves w r × AreBack Serves ws rs

-- the wire of the first channel comes back
abbrev pub IsFirstBack : (List Happening → List Happening → Type 0) → End → Option End → Type 0
IsFirstBack Serves w None = ⊥
IsFirstBack Serves w (Some r) = (r.descriptor ≡ w.descriptor) × Serves w.happened r.happened

-- the thread of each of these could be made
abbrev pub are_made : List (Option End) → Bool
are_made rs = list_all is_some rs

-- The first channel was served, as goes with whether a thread could be made for each other one; and
-- each other one for which one could.
abbrev pub AreServedBy : (First : Bool → List Happening → List Happening → Type 0)
    → (Serves : List Happening → List Happening → Type 0) → List End → List (Option End) → Type 0
AreServedBy First Serves [] rs = ⊥
AreServedBy First Serves (w ∷ ws) [] = ⊥
AreServedBy First Serves (w ∷ ws) (r ∷ rs) =
    IsFirstBack (First (are_made rs)) w r × AreBack Serves ws rs

abbrev pub AreServed : Type 0 → (shelf.Asked → ShelfFault → Type 0) → (Held → Type 0) → List End
    → List (Option End) → Type 0
AreServed Honest Refused keeps ws rs =
    AreServedBy (IsServedFirst Honest Refused keeps) (IsServed Honest Refused keeps) ws rs

-- ---- a database

-- so many forks of its shelf: one for the store, two for each channel, and one for each worker
abbrev pub forks_for : (channels workers : ℕ) → ℕ
forks_for channels workers = 1 + 2 * channels + workers

-- the own shelves of so many sessions, in their order: of each two forks behind that of this number
-- the first
abbrev pub own_forks : Place → (number count : ℕ) → List Told
own_forks p number zero = []
own_forks p number (suc count) = fork_at p (number + 1) ∷ own_forks p (number + 2) count

-- A state was started, and served over these wires. All that came in on it was asked for over such
-- wires: the lock kept that all the while. Once it was started its shelf was asked for forks alone.
pub record IsDatabaseServed (Honest : Type 0) (Refused : shelf.Asked → ShelfFault → Type 0)
    (gives : List ℕ → Type 0) (o : Options) (workers : ℕ) (start : Start) (logs : List FolderFile)
    (was is : Told) (ws : List End) (rs : List (Option End)) : Type 0 where
  pub found : Held
  pub told : Told
  pub started : IsStartedWith Honest o start logs found was told
  pub forked : ForkedTimes (forks_for (length ws) workers) told is
  pub served : AreServed Honest Refused (HasComeTo Honest gives found) ws rs

-- memory ran out, or there was no thread; or a shelf was not forked
abbrev pub IsUnforked : WriterFault → Type 0
IsUnforked e = (e ≡ OutOfMemory) ⊎ ((fault : ShelfFault) × (e ≡ of_shelf fault) × NotNamed fault)

-- Why no database was served: no state was started; or one was, and then its shelf was asked for
-- forks alone.
abbrev pub IsDatabaseUnserved : (ℕ → List ℕ → Type 0) → (shelf.Asked → ShelfFault → Type 0)
    → Type 0 → Options → Start → List FolderFile → WriterFault → (was is : Told) → Type 0
IsDatabaseUnserved Stored Refused Honest o start logs e was is =
    (IsOutOfMemory e was is ⊎ IsStartRefusalWith Stored Refused Honest o start logs e was is)
    ⊎ ((found : Held) × (told : Told) × IsStartedWith Honest o start logs found was told
    × Forked told is × IsUnforked e)

-- The wires come back as they were given; or, with this refusal, none does.
abbrev pub AreHandedBack : {W E : Type 0} → (lost : E) → (given back : List W) → E → Type 0
AreHandedBack lost given back e = (back ≡ given) ⊎ ((e ≡ lost) × (back ≡ []))
