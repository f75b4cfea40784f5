-- Reservations: what a job gets at its moment, and why there is none (LevelDB's `doc/impl.md`,
-- "Compactions"; several jobs at a time are this project's).
use Rattle.std.specs.Prelude.{◌≡◌, ℕ, suc, ◌-◌, ◌^◌, ◌<◌, ◌≤◌, true, false, List, [], ◌∷◌, ◌++◌}
use Rattle.std.specs.Prelude.{◌⊎◌}
use Rattle.lsm_codec.specs.Keys.{UserKey}
use Rattle.lsm_codec.specs.Lists.{Has}
use Rattle.lsm_model.specs.Files.{all_entries}
use Rattle.lsm_model.specs.Plain.{Reserves, floor_of}
use Rattle.lsm_picker.specs.Choice.{HasNoChoice, IsChoice}
use Rattle.lsm_picker.specs.Gathering as picker
use Rattle.lsm_picker.specs.Joining.{IsJoined, IsSettled, Span}
use Rattle.lsm_picker.specs.Moves.{IsLargeMove}
use Rattle.lsm_picker.specs.Outermost.{HasNoOutermost, IsOverOutermost}
use Rattle.lsm_picker.specs.RangesBelow.{AreRangesBelow}
use Rattle.lsm_picker.specs.Reservations.{IsClear, IsHeldUp, IsLeastConflict}
use Rattle.lsm_picker.specs.TablePlans.{IsPlanFrom, StandsIn, TablePlan, files_over, plan_of}
use Rattle.lsm_picker.specs.TablePlans.{tables_over}
use Rattle.lsm_picker.specs.declared.plan_fault.PlanFault.{PlanFault}
use Rattle.lsm_picker.specs.declared.plan_fault.PlanFault.TheVariants as planned
use Rattle.lsm_merge.specs.InputOrder.{HasTwins, StandInOrder}
use Rattle.lsm_merge.specs.Work.{Work, job_of}
use Rattle.lsm_live.specs.Booked.{new_booked}
use Rattle.lsm_live.specs.Reserving.{reserved_jobs}
use Rattle.lsm_state.specs.Held.{Held, plain}
use Rattle.lsm_state.specs.Options.{sizes_of}
use Rattle.lsm_state.specs.declared.state_fault.StateFault.{StateFault}
use Rattle.lsm_state.specs.declared.state_fault.StateFault.TheVariants.{BadLevel, Conflict, Halted}
use Rattle.lsm_state.specs.declared.state_fault.StateFault.TheVariants.{NumbersSpent, OutOfMemory}

-- the plan of a job: its level, its tables there and at the next level, and its hull
abbrev pub plan_in : Work → TablePlan
plan_in w = record { level = w.level; upper = w.upper; lower = w.lower; low = w.low; high = w.high }

-- What a job gets at its reservation: the next ticket, the oldest live snapshot's sequence or the
-- last one as its floor, the ranges of the files two or more levels below, and the state's sizes.
pub record IsOfMoment (h : Held) (w : Work) : Type 0 where
  pub ticket : w.ticket ≡ h.next_ticket
  pub floor : w.floor ≡ floor_of h.slots.version.last h.snapshots.taken
  pub ranges : AreRangesBelow h.slots.version w.level w.ranges
  pub table : w.table ≡ sizes_of h.options
  pub target_size : w.target_size ≡ h.options.target_size

-- the state with one live job more, for which no number was drawn yet
abbrev pub reserved : Work → Held → Held
reserved w h = record h { live = h.live ++ new_booked w ∷ []; next_ticket = suc h.next_ticket }

-- the reservation is an event of the plain machine
abbrev pub IsReserving : Type 0 → Held → Work → Held → Type 0
IsReserving honest old w new =
    Reserves honest (plain old) (plan_of (plan_in w)) (job_of w) (plain new)

-- The inputs of each level from 1 on stand one after another, and no two entries of all inputs have
-- one internal key. So a merge of them over an honest shelf is never refused as out of order.
pub record HasOrderedInputs (w : Work) : Type 0 where
  pub order : StandInOrder w
  pub single : HasTwins (all_entries (job_of w).inputs) → ⊥

-- the plan is closed, from some starting files
abbrev pub IsClosedPlan : Held → TablePlan → Type 0
IsClosedPlan h p = (starts : List Rattle.lsm_model.specs.Files.File)
    × IsPlanFrom h.slots.version (Has starts) p

-- a refusal of a range plan, as the state answers it
abbrev pub plan_refusal : PlanFault → StateFault
plan_refusal planned.OutOfMemory = OutOfMemory
plan_refusal (planned.BadLevel level) = BadLevel level

-- why no plan was made: the state is halted, or memory was refused
abbrev pub IsPlanRefusal : Held → StateFault → Type 0
IsPlanRefusal h Halted = h.halted ≡ true
IsPlanRefusal h OutOfMemory = h.halted ≡ false
IsPlanRefusal h e = ⊥

-- ---- the choice

-- the plan that is chosen beside the live jobs
abbrev pub IsChosen : Held → TablePlan → Type 0
IsChosen h p = IsChoice h.slots.version (reserved_jobs h.live) p

-- Why there is no chosen job: the state is halted; or there is one, but its ticket would be 2^64 -
-- 1; or memory was refused.
abbrev pub IsReserveRefusal : Type 0 → Held → StateFault → Type 0
IsReserveRefusal honest h Halted = h.halted ≡ true
IsReserveRefusal honest h NumbersSpent =
    (h.halted ≡ false) × (h.next_ticket ≡ 2 ^ 64 - 1) × (honest → (p : TablePlan) × IsChosen h p)
IsReserveRefusal honest h OutOfMemory = h.halted ≡ false
IsReserveRefusal honest h e = ⊥

-- ---- a range

-- the closed plan of the files of the level that meet the range
abbrev pub IsRangePlan : Held → ℕ → UserKey → UserKey → TablePlan → Type 0
IsRangePlan h level from to p =
    IsPlanFrom h.slots.version (Has (files_over h.slots.version level from to)) p

-- Whatever the shelf is: the plan is one of the level, of tables that stand there and at the next
-- level.
abbrev pub IsPlanAt : Held → ℕ → TablePlan → Type 0
IsPlanAt h level p = (p.level ≡ level) × StandsIn h.slots.version p

-- Why there is no job of a range: the state is halted; or the level is above 5; or the plan
-- conflicts with a live job, the least ticket of which is named; or it conflicts with none, but its
-- ticket would be 2^64 - 1; or memory was refused.
abbrev pub IsRangeRefusal : Type 0 → Held → ℕ → UserKey → UserKey → StateFault → Type 0
IsRangeRefusal honest h level from to Halted = h.halted ≡ true
IsRangeRefusal honest h level from to (BadLevel n) = (h.halted ≡ false) × (n ≡ level) × (5 < level)
IsRangeRefusal honest h level from to (Conflict ticket) = (h.halted ≡ false) × (level ≤ 5)
    × ((p : TablePlan) × (honest → IsRangePlan h level from to p)
    × IsLeastConflict p (reserved_jobs h.live) ticket × IsPlanAt h level p)
IsRangeRefusal honest h level from to NumbersSpent =
    (h.halted ≡ false) × (level ≤ 5) × (h.next_ticket ≡ 2 ^ 64 - 1)
    × ((p : TablePlan) × (honest → IsRangePlan h level from to p) × IsClear p (reserved_jobs h.live)
    × IsPlanAt h level p)
IsRangeRefusal honest h level from to OutOfMemory = (h.halted ≡ false) × (level ≤ 5)
IsRangeRefusal honest h level from to e = ⊥

-- ---- what workers reserve: the choice below level 0, or that moves a file which is not small;
-- then a run of files that are joined; then the outermost file of level 0; then the choice of level
-- 0 where that is ready (this project's rule)

-- a job of the plan only moves a file, and that one is not small
abbrev pub MovesLarge : Held → TablePlan → Type 0
MovesLarge h p = IsLargeMove h.slots.version p h.options.target_size

-- it is below level 0, or only moves a file that is not small
abbrev pub GoesAtOnce : Held → TablePlan → Type 0
GoesAtOnce h p = (1 ≤ p.level) ⊎ MovesLarge h p

-- the choice has to wait until nothing can be joined, and there is no outermost file
pub record WaitsForOthers (h : Held) (p : TablePlan) : Type 0 where
  pub chosen : IsChosen h p
  pub level : p.level ≡ 0
  pub no_move : MovesLarge h p → ⊥

-- there is no choice, or it has to wait
abbrev pub HasNoneAtOnce : Held → Type 0
HasNoneAtOnce h = HasNoChoice h.slots.version (reserved_jobs h.live)
    ⊎ ((p : TablePlan) × WaitsForOthers h p)

-- the range meets no file, or the plan of those that it meets conflicts with a live job
abbrev pub HasToWait : Held → Span → Type 0
HasToWait h s = (tables_over h.slots.version s.level s.from s.to ≡ [])
    ⊎ ((p : TablePlan) × IsRangePlan h s.level s.from s.to p × IsHeldUp p (reserved_jobs h.live))

-- the plan of the range of level 0's outermost file, which conflicts with no live job
pub record GoesDown (h : Held) (p : TablePlan) : Type 0 where
  pub span : Span
  pub outermost : IsOverOutermost h.slots.version (reserved_jobs h.live) span
  pub planned : IsRangePlan h span.level span.from span.to p
  pub clear : IsClear p (reserved_jobs h.live)

-- No file of level 0 goes down so: there is no outermost one, or it has to wait.
abbrev pub NoneGoesDown : Held → Type 0
NoneGoesDown h = HasNoOutermost h.slots.version (reserved_jobs h.live)
    ⊎ ((s : Span) × IsOverOutermost h.slots.version (reserved_jobs h.live) s × HasToWait h s)

-- the plan of the files that are joined, which conflicts with no live job
pub record IsJoining (h : Held) (p : TablePlan) : Type 0 where
  pub span : Span
  pub joined : IsJoined h.slots.version h.options.target_size span
  pub planned : IsRangePlan h span.level span.from span.to p
  pub clear : IsClear p (reserved_jobs h.live)

-- Nothing can be joined: there is no run, or the files of the one that is taken have to wait.
abbrev pub HasNoJoining : Held → Type 0
HasNoJoining h = IsSettled h.slots.version h.options.target_size
    ⊎ ((s : Span) × IsJoined h.slots.version h.options.target_size s × HasToWait h s)

-- level 0 is compacted: it has four files that are not small, or eleven of which none are gathered
abbrev pub IsReady : Held → Type 0
IsReady h = picker.IsReady h.slots.version (reserved_jobs h.live) h.options.target_size

-- there is no choice, or it has to wait, and level 0 is not ready
abbrev pub HasNoneReady : Held → Type 0
HasNoneReady h = HasNoChoice h.slots.version (reserved_jobs h.live)
    ⊎ ((p : TablePlan) × WaitsForOthers h p × (IsReady h → ⊥))

-- The chosen plan where it goes at once; else that of the files that are joined; else that of the
-- outermost file; else the chosen one, where level 0 is ready.
abbrev pub IsNext : Held → TablePlan → Type 0
IsNext h p = (IsChosen h p × GoesAtOnce h p)
    ⊎ (HasNoneAtOnce h × IsJoining h p)
    ⊎ (HasNoneAtOnce h × HasNoJoining h × GoesDown h p)
    ⊎ (HasNoJoining h × NoneGoesDown h × IsChosen h p × IsReady h)

abbrev pub HasNoNext : Held → Type 0
HasNoNext h = HasNoJoining h × NoneGoesDown h × HasNoneReady h

-- Why there is no next job: the state is halted; or there is one, but its ticket would be
-- 2^64 - 1; or memory was refused.
abbrev pub IsNextRefusal : Type 0 → Held → StateFault → Type 0
IsNextRefusal honest h Halted = h.halted ≡ true
IsNextRefusal honest h NumbersSpent = (h.halted ≡ false) × (h.next_ticket ≡ 2 ^ 64 - 1)
    × (honest → (p : TablePlan) × IsNext h p)
IsNextRefusal honest h OutOfMemory = h.halted ≡ false
IsNextRefusal honest h e = ⊥

-- ---- how the code looks for it

-- what goes before a choice that has to wait
abbrev pub GoesBefore : Held → TablePlan → Type 0
GoesBefore h p = IsJoining h p ⊎ (HasNoJoining h × GoesDown h p)

abbrev pub NoneGoesBefore : Held → Type 0
NoneGoesBefore h = HasNoJoining h × NoneGoesDown h
