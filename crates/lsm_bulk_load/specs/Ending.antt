-- What is left behind lines that were loaded beside workers (this project's rule).
use Rattle.std.specs.Prelude.{◌≡◌, ◌⊎◌, ⊤, ℕ, List, Result, Ok, Err}
use Rattle.lsm_history.specs.History.{IsLater}
use Rattle.lsm_live.specs.Booked.{HasTicket}
use Rattle.lsm_state.specs.Gathering.{HasNoneToGather}
use Rattle.lsm_state.specs.Held.{Held}
use Rattle.lsm_state.specs.Reserving.{HasNoNext}
use Rattle.lsm_store.specs.Ends.{IsFirstFault}
use Rattle.lsm_store.specs.declared.worker_end.WorkerEnd.{WorkerEnd}
use Rattle.lsm_bulk_load.specs.Marks.{Marked}
use Rattle.lsm_bulk_load.specs.declared.load_fault.LoadFault.{LoadFault}
use Rattle.lsm_bulk_load.specs.declared.load_fault.LoadFault.TheVariants.{Other, Worker, Due}

-- Nothing is due beside the live jobs: a worker has no files of level 0 to gather, and no next
-- compaction.
abbrev pub IsIdle : Held → Type 0
IsIdle h = HasNoneToGather h × HasNoNext h

-- A job was looked for, and what was reserved was given up again: no more may have changed than the
-- live jobs and the next ticket.
abbrev pub IsLooked : Held → Held → Type 0
IsLooked was is = is ≡ record was { live = is.live; next_ticket = is.next_ticket }

-- No job is live that was not before: nothing is left reserved.
abbrev pub ReservesNone : Held → Held → Type 0
ReservesNone was is = (ticket : ℕ) → HasTicket is.live ticket → HasTicket was.live ticket

-- Why all is not done, where the lines came to this and workers ended so: the lines' own fault; or
-- all lines are in, and this worker ended early, or something is due.
abbrev pub IsOfEnd : {T : Type 0} → Result T LoadFault → List WorkerEnd → LoadFault → Type 0
IsOfEnd (Err fault) ends e = e ≡ fault
IsOfEnd (Ok x) ends (Worker fault) = IsFirstFault fault ends
IsOfEnd (Ok x) ends Due = ⊤
IsOfEnd (Ok x) ends e = ⊥

-- The state goes on from the mark, since another batch came in; or it is just as far, and that is
-- why.
abbrev pub IsLate : {T : Type 0} → (mark now : Marked) → Result T LoadFault → List WorkerEnd
    → LoadFault → Type 0
IsLate mark now loaded ends e =
    ((e ≡ Other) × IsLater now.history mark.history) ⊎ ((now ≡ mark) × IsOfEnd loaded ends e)
