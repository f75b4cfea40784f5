-- A conversation with the database of a folder (this project's rule).
use Rattle.std.specs.Prelude.{◌≡◌, ◌≤◌, ◌⊎◌, ℕ, ◌+◌, Bool, List, All, length, Option, None, Some}
use Rattle.std.specs.Prelude.{Result, Ok, Err}
use Rattle.std.specs.Io.KnownBytes.{Keeps}
use Rattle.lsm_shelf.specs.Asked.{Asked}
use Rattle.lsm_shelf.specs.Told.{NotNamed, Told, fork_at}
use Rattle.lsm_shelf.specs.declared.shelf_fault.ShelfFault.{ShelfFault}
use Rattle.lsm_state.specs.Held.{Held}
use Rattle.lsm_text.specs.declared.form.Form.{Form}
use Rattle.lsm_directory.specs.declared.folder.folder_file.FolderFile.{FolderFile}
use Rattle.lsm_script.specs.Steps.{Stage, clear, stage_of}
use Rattle.lsm_store.specs.Workers.{IsWorkersEnd}
use Rattle.lsm_store.specs.declared.worker_end.WorkerEnd.{WorkerEnd}
use Rattle.lsm_store.specs.declared.worker_fault.WorkerFault.{WorkerFault}
use Rattle.lsm_store.specs.Ends.{IsFaultless, IsFirstFault}
use Rattle.lsm_shelf.specs.Told.{GivesForks, RefusesFork}
use Rattle.lsm_bulk_load.specs.Loading.{HaveWorkedBeside}
use Rattle.lsm_opening.specs.Starting.{IsStartRefusal, IsStarted}
use Rattle.lsm_opening.specs.WriterFault.{of_shelf}
use Rattle.lsm_opening.specs.declared.faults.compact_fault.CompactFault.TheVariants.{Writer, Worker}
use Rattle.lsm_opening.specs.declared.faults.writer_fault.WriterFault.{WriterFault}
use Rattle.lsm_opening.specs.declared.faults.writer_fault.WriterFault.TheVariants.{OutOfMemory}
use Rattle.lsm_opening.specs.declared.faults.writer_fault.WriterFault.TheVariants.{Read as ReadFault}
use Rattle.lsm_opening.specs.declared.faults.writer_fault.WriterFault.TheVariants.{Write as WriteFault}
use Rattle.lsm_opening.specs.declared.prepared.Start.{Start}
use Rattle.lsm_cmd_shell.specs.Beside.{IsTalkedBeside, waiting}
use Rattle.lsm_cmd_shell.specs.Keeping.{HasComeTo}
use Rattle.lsm_cmd_shell.specs.Talk.{IsTalk}
use Rattle.lsm_cmd_shell.specs.declared.talk_fault.TalkFault.{TalkFault}
use Rattle.lsm_cmd_shell.specs.declared.talk_fault.TalkFault.TheVariants as talk
use Rattle.lsm_cmd_shell.specs.declared.shell_fault.ShellFault.{ShellFault}
use Rattle.lsm_cmd_shell.specs.declared.shell_fault.ShellFault.TheVariants.{Run, LineFailed}
use Rattle.lsm_cmd_shell.specs.declared.shell_fault.ShellFault.TheVariants.{BatchOpen}

-- ---- faults

-- a conversation's
abbrev pub of_talk : TalkFault → ShellFault
of_talk talk.Read = Run (Writer ReadFault)
of_talk talk.Write = Run (Writer WriteFault)
of_talk talk.LineFailed = LineFailed
of_talk talk.BatchOpen = BatchOpen

-- memory ran out
abbrev pub spent : ShellFault
spent = Run (Writer OutOfMemory)

-- ---- without workers

-- The directory was begun or opened, and then a conversation went on with its state, and ended so.
pub record Converses (honest : Type 0) (start : Start) (logs : List FolderFile) (form : Form)
    (bails : Bool) (input : Option (List ℕ)) (r : Result (Unit {0}) TalkFault) (was is : Told)
    (old new : Option (List ℕ)) : Type 0 where
  pub state : Held
  pub mid : Told
  pub started : IsStarted honest start logs state was mid
  pub last : Stage
  pub talk : IsTalk honest form bails input r (stage_of state mid) last old new
  pub told : last.told ≡ is

-- Why a conversation did not end well. Memory ran out before the first line was read; the directory
-- was not begun or opened; or it ended so.
abbrev pub IsConverseFault : (ℕ → List ℕ → Type 0) → (Asked → ShelfFault → Type 0) → Type 0 → Start
    → List FolderFile → Form → (bails : Bool) → Option (List ℕ) → ShellFault → Told → Told
    → Option (List ℕ) → Option (List ℕ) → Type 0
IsConverseFault Stored Refused honest start logs form bails input e was is old new =
    ((e ≡ spent) × Keeps old new
    × ((is ≡ was) ⊎ ((h : Held) × IsStarted honest start logs h was is)))
    ⊎ (((fault : WriterFault) × (e ≡ Run (Writer fault))
    × IsStartRefusal Stored Refused honest start logs fault was is × Keeps old new)
    ⊎ ((fault : TalkFault) × (e ≡ of_talk fault)
    × Converses honest start logs form bails input (Err fault) was is old new))

-- ---- beside workers

-- The directory was begun or opened, and its shelf gave forks: one for each worker, and one for the
-- conversation. By this one, which was told no more, a conversation went on with its state, and
-- ended so, while so many workers compacted by the others, and one more gathered where it could be
-- had, which ended so.
-- Whenever the state was lent, it had come from the one that was begun or opened by steps of
-- workers and by replies to lines of the input alone; and so had the one that the store had in the
-- end, of which no more is said. It was said of an output that had this much; that it is the
-- caller's is to be read.
pub record ConversesBeside (Refused : Asked → ShelfFault
    → Type 0) (honest : Type 0) (start : Start) (logs : List FolderFile) (form : Form)
    (bails : Bool) (workers : ℕ) (input : Option (List ℕ)) (r : Result (Unit {0}) TalkFault)
    (ends : List WorkerEnd) (was is : Told) (old : Option (List ℕ)) : Type 0 where
  pub state : Held
  pub mid : Told
  pub started : IsStarted honest start logs state was mid
  pub forked : GivesForks (workers + 1) mid is
  pub own : Told
  pub talk : IsTalkedBeside honest (HasComeTo honest form input state) form bails input r
      (waiting state.history (fork_at was.place (mid.forks + workers + 1)) clear None) own old
  pub left : Held
  pub come : ∥ HasComeTo honest form input state left ∥₁
  pub count : (workers ≤ length ends) × (length ends ≤ workers + 1)
  pub each : All (IsWorkersEnd honest) ends
  pub worked : HaveWorkedBeside honest Refused (HasComeTo honest form input state) was.place
      mid.forks workers ends

-- It ended well, and no worker ended early.
abbrev pub IsConversedBeside : (Asked → ShelfFault → Type 0) → Type 0 → Start → List FolderFile
    → Form → (bails : Bool) → (workers : ℕ) → Option (List ℕ) → Told → Told → Option (List ℕ)
    → Type 0
IsConversedBeside Refused honest start logs form bails workers input was is old =
    (ends : List WorkerEnd) × All IsFaultless ends
    × ConversesBeside Refused honest start logs form bails workers input (Ok tt) ends was is old

-- the fault of the first worker that has one
abbrev pub IsWorkers : List WorkerEnd → ShellFault → Type 0
IsWorkers ends e = (fault : WorkerFault) × IsFirstFault fault ends × (e ≡ Run (Worker fault))

-- or else this one
abbrev pub IsWorkerOr : ShellFault → List WorkerEnd → ShellFault → Type 0
IsWorkerOr other ends e = IsWorkers ends e ⊎ (All IsFaultless ends × (e ≡ other))

-- Why one that ended so, beside workers that ended so, is a fault: that of a stream first, and that
-- of a worker before that of a line.
abbrev pub IsOfEnds : Result (Unit {0}) TalkFault → List WorkerEnd → ShellFault → Type 0
IsOfEnds (Ok well) ends e = IsWorkers ends e
IsOfEnds (Err talk.Read) ends e = e ≡ of_talk talk.Read
IsOfEnds (Err talk.Write) ends e = e ≡ of_talk talk.Write
IsOfEnds (Err talk.LineFailed) ends e = IsWorkerOr LineFailed ends e
IsOfEnds (Err talk.BatchOpen) ends e = IsWorkerOr BatchOpen ends e

-- No worker began: the shelf refused a fork with this, was asked for no other, and nothing was
-- said; or it gave all of them, and there was no memory for workers.
abbrev pub IsUnmanned : (workers : ℕ) → ShellFault → Told → Told → Option (List ℕ)
    → Option (List ℕ) → Type 0
IsUnmanned workers e was is old new =
    ((fault : ShelfFault) × NotNamed fault × (e ≡ Run (Writer (of_shelf fault)))
    × RefusesFork (workers + 1) fault was is × Keeps old new)
    ⊎ ((e ≡ spent) × GivesForks (workers + 1) was is)

-- Why a conversation beside workers did not come to such an end. Memory ran out before the shelf
-- was asked for a fork, and nothing was said; the directory was not begun or opened; it was, and no
-- worker began; or it ended so.
abbrev pub IsBesideFault : (ℕ → List ℕ → Type 0) → (Asked → ShelfFault → Type 0) → Type 0 → Start
    → List FolderFile → Form → (bails : Bool) → (workers : ℕ) → Option (List ℕ) → ShellFault → Told
    → Told → Option (List ℕ) → Option (List ℕ) → Type 0
IsBesideFault Stored Refused honest start logs form bails workers input e was is old new =
    ((e ≡ spent) × Keeps old new
    × ((is ≡ was) ⊎ ((h : Held) × IsStarted honest start logs h was is)))
    ⊎ (((fault : WriterFault) × (e ≡ Run (Writer fault))
    × IsStartRefusal Stored Refused honest start logs fault was is × Keeps old new)
    ⊎ (((h : Held) × (mid : Told) × IsStarted honest start logs h was mid
    × IsUnmanned workers e mid is old new)
    ⊎ ((r : Result (Unit {0}) TalkFault) × (ends : List WorkerEnd) × IsOfEnds r ends e
    × ConversesBeside Refused honest start logs form bails workers input r ends was is old)))

-- ---- with workers, or without

-- a conversation ended well
abbrev pub IsConversed : Option ℕ → (Asked → ShelfFault → Type 0) → Type 0 → Start
    → List FolderFile → Form → (bails : Bool) → Option (List ℕ) → Told → Told → Option (List ℕ)
    → Option (List ℕ) → Type 0
IsConversed None Refused honest start logs form bails input was is old new =
    Converses honest start logs form bails input (Ok tt) was is old new
IsConversed (Some workers) Refused honest start logs form bails input was is old new =
    IsConversedBeside Refused honest start logs form bails workers input was is old

-- this kept it from such an end
abbrev pub IsUnconversed : Option ℕ → (ℕ → List ℕ → Type 0) → (Asked → ShelfFault → Type 0) → Type 0
    → Start → List FolderFile → Form → (bails : Bool) → Option (List ℕ) → ShellFault → Told → Told
    → Option (List ℕ) → Option (List ℕ) → Type 0
IsUnconversed None Stored Refused honest start logs form bails input e was is old new =
    IsConverseFault Stored Refused honest start logs form bails input e was is old new
IsUnconversed (Some workers) Stored Refused honest start logs form bails input e was is old new =
    IsBesideFault Stored Refused honest start logs form bails workers input e was is old new
