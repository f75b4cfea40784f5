-- A conversation beside workers.
use Rattle.std.proofs.Common.{◌≡◌, ◌≤◌, ◌+◌, ℕ, Bool, List, All, length, Option, None, IfErr, OnOk}
use Rattle.std.proofs.Common.{sym, subst, inr}
use Rattle.std.specs.Prelude.{Result, Ok, Err}
use Rattle.lsm_codec.specs.Entries.{Entry}
use Rattle.lsm_shelf.specs.Asked.{Asked}
use Rattle.lsm_shelf.specs.Place.{Place}
use Rattle.lsm_shelf.specs.Told.{Told, fork_at, forks_behind}
use Rattle.lsm_shelf.specs.declared.shelf_fault.ShelfFault.{ShelfFault}
use Rattle.lsm_history.specs.History.{IsLater}
use Rattle.lsm_model.specs.Runs.{ReadsAs}
use Rattle.lsm_state.specs.Held.{Held, plain}
use Rattle.lsm_text.specs.declared.form.Form.{Form}
use Rattle.lsm_directory.specs.declared.folder.folder_file.FolderFile.{FolderFile}
use Rattle.lsm_script.specs.Steps.{OnDesk, clear}
use Rattle.lsm_store.specs.Workers.{IsWorkersEnd}
use Rattle.lsm_store.specs.Working.{HaveEndedBeside}
use Rattle.lsm_store.specs.declared.worker_end.WorkerEnd.{WorkerEnd}
use Rattle.lsm_store.specs.Ends.{IsFaultless}
use Rattle.lsm_shelf.specs.Told.{GivesForks}
use Rattle.lsm_bulk_load.specs.Loading.{HaveWorkedBeside}
use Rattle.lsm_opening.specs.Starting.{IsStarted}
use Rattle.lsm_opening.specs.declared.prepared.Start.{Start}
use Rattle.lsm_cmd_shell.specs.Beside.{IsLent, IsTalkedBeside, waiting}
use Rattle.lsm_cmd_shell.specs.Conversing.{ConversesBeside, IsBesideFault, IsConversedBeside}
use Rattle.lsm_cmd_shell.specs.Conversing.{IsOfEnds}
use Rattle.lsm_cmd_shell.specs.Keeping.{HasComeTo}
use Rattle.lsm_cmd_shell.specs.declared.shell_fault.ShellFault.{ShellFault}
use Rattle.lsm_cmd_shell.specs.declared.talk_fault.TalkFault.{TalkFault}

-- a state that was only looked at since
pub lent : (honest : Type 0) (known : List Entry) (h k : Held) → k ≡ h → IsLater h.history known → (honest → ReadsAs (plain k) k.history) → IsLent honest known h
lent honest known h k same later reads = record { later = later; reads = subst (λ (x : Held). honest → ReadsAs (plain x) x.history) same reads }

-- the shelves of workers are the next forks
pub worked_beside : (honest : Type 0) (Refused : Asked → ShelfFault → Type 0)
    (keeps : Held → Type 0) (place : Place) (number workers : ℕ) (shelves : List Told)
    (ends : List WorkerEnd) → shelves ≡ forks_behind place number workers
    → HaveEndedBeside honest Refused keeps shelves ends → HaveWorkedBeside honest Refused keeps
    place number workers ends
worked_beside honest Refused keeps place number workers shelves ends new ended =
    subst (λ (ts : List Told). HaveEndedBeside honest Refused keeps ts ends) new ended

pub conversed : (Refused : Asked → ShelfFault → Type 0) (honest : Type 0) (start : Start) (logs : List FolderFile) (form : Form) (bails : Bool) (workers : ℕ) (input : Option (List ℕ)) (r : Result (Unit {0}) TalkFault) (ends items : List WorkerEnd)
    (was mid is own : Told) (old : Option (List ℕ)) (state left : Held) (desk : OnDesk)
    (place : Place) → was.place ≡ place → IsStarted honest start logs state was mid
    → GivesForks (workers + 1) mid is → desk ≡ clear
    → IsTalkedBeside honest (HasComeTo honest form input state) form bails input r
    (waiting state.history (fork_at place (mid.forks + workers + 1)) desk None) own old
    → ∥ HasComeTo honest form input state left ∥₁ → ends ≡ items → (workers ≤ length ends)
    × (length ends ≤ workers + 1)
    → All (IsWorkersEnd honest) items → HaveWorkedBeside honest Refused
    (HasComeTo honest form input state) place mid.forks workers items
    → ConversesBeside Refused honest start logs form bails workers input r ends was is old
conversed Refused honest start logs form bails workers input r ends items was mid is own old state
    left desk place here started forked desk_is talk come same count each worked = record {
      state = state;
      mid = mid;
      started = started;
      forked = forked;
      own = own;
      talk =
          subst (λ (p : Place). IsTalkedBeside honest (HasComeTo honest form input state) form bails
          input r (waiting state.history (fork_at p (mid.forks + workers + 1)) clear None) own old)
          (sym here)
          (subst
          (λ (d : OnDesk). IsTalkedBeside honest (HasComeTo honest form input state) form bails
          input r (waiting state.history (fork_at place (mid.forks + workers + 1)) d None) own old)
          desk_is talk);
      left = left;
      come = come;
      count = count;
      each = subst (λ (es : List WorkerEnd). All (IsWorkersEnd honest) es) (sym same) each;
      worked =
          subst (λ (p : Place). HaveWorkedBeside honest Refused
          (HasComeTo honest form input state) p mid.forks workers ends) (sym here)
          (subst (λ (es : List WorkerEnd). HaveWorkedBeside honest Refused
          (HasComeTo honest form input state) place mid.forks workers es) (sym same) worked);
    }

-- how that is judged
pub judged_done : (Refused : Asked → ShelfFault → Type 0) (honest : Type 0) (start : Start) (logs : List FolderFile) (form : Form) (bails : Bool) (workers : ℕ) (input : Option (List ℕ)) (r : Result (Unit {0}) TalkFault) (ends : List WorkerEnd) (was is : Told)
    (old : Option (List ℕ)) (done : Result (Unit {0}) ShellFault) → ConversesBeside Refused honest start logs form bails workers input r ends was is old → OnOk done ((r ≡ Ok tt) × All IsFaultless ends)
    → OnOk done (IsConversedBeside Refused honest start logs form bails workers input was is old)
judged_done Refused honest start logs form bails workers input r ends was is old (Ok x) c judged =
    (ends, judged.1, subst (λ (q : Result (Unit {0}) TalkFault). ConversesBeside Refused honest start logs form bails workers input q ends was is old) judged.0 c)
judged_done Refused honest start logs form bails workers input r ends was is old (Err e) c judged = tt

pub judged_fault : (Stored : ℕ → List ℕ → Type 0) (Refused : Asked → ShelfFault → Type 0) (honest : Type 0) (start : Start) (logs : List FolderFile) (form : Form) (bails : Bool) (workers : ℕ) (input : Option (List ℕ))
    (r : Result (Unit {0}) TalkFault) (ends : List WorkerEnd) (was is : Told) (old new : Option (List ℕ)) (done : Result (Unit {0}) ShellFault) → ConversesBeside Refused honest start logs form bails workers input r ends was is old
    → IfErr done (IsOfEnds r ends) → IfErr done (λ e. IsBesideFault Stored Refused honest start logs form bails workers input e was is old new)
judged_fault Stored Refused honest start logs form bails workers input r ends was is old new (Ok x) c judged = tt
judged_fault Stored Refused honest start logs form bails workers input r ends was is old new (Err e) c judged = inr (inr (inr (r, ends, judged, c)))

-- the same said of equal things
pub fault_same : (Stored : ℕ → List ℕ → Type 0) (Refused : Asked → ShelfFault → Type 0) (honest : Type 0) (start : Start) (logs : List FolderFile) (form : Form) (bails : Bool) (workers : ℕ) (i j : Option (List ℕ))
    (was now is end : Told) (old new : Option (List ℕ)) (done : Result (Unit {0}) ShellFault) → i ≡ j → was ≡ now → is ≡ end
    → IfErr done (λ e. IsBesideFault Stored Refused honest start logs form bails workers i e was is old new) → IfErr done (λ e. IsBesideFault Stored Refused honest start logs form bails workers j e now end old new)
fault_same Stored Refused honest start logs form bails workers i j was now is end old new done input before after h =
    subst (λ (t : Told). IfErr done (λ e. IsBesideFault Stored Refused honest start logs form bails workers j e now t old new)) after
    (subst (λ (t : Told). IfErr done (λ e. IsBesideFault Stored Refused honest start logs form bails workers j e t is old new)) before
    (subst (λ (k : Option (List ℕ)). IfErr done (λ e. IsBesideFault Stored Refused honest start logs form bails workers k e was is old new)) input h))
