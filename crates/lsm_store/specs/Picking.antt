-- Which job a worker gets when it looks for one (this project's rule).
use Rattle.std.specs.Prelude.{◌≡◌, ℕ, ◌<◌, ◌≤◌, Option, None, Some}
use Rattle.lsm_picker.specs.Choice.{HasNoChoice}
use Rattle.lsm_picker.specs.Joining.{Span}
use Rattle.lsm_live.specs.Reserving.{reserved_jobs}
use Rattle.lsm_merge.specs.Work.{Work}
use Rattle.lsm_state.specs.Gathering.{HasNoneToGather}
use Rattle.lsm_state.specs.Held.{Held}
use Rattle.lsm_state.specs.Reserving.{HasNoNext, HasToWait, IsChosen, IsNext, IsRangePlan}
use Rattle.lsm_state.specs.Reserving.{plan_in, reserved}
use Rattle.lsm_store.specs.declared.picks.Picks.{Picks}
use Rattle.lsm_store.specs.declared.picks.Picks.TheVariants.{Choice, Gathering, Joining}
use Rattle.lsm_store.specs.declared.picks.Picks.TheVariants.{Manual}

-- A level has no files that meet the range, or a live job is in the way of those that it has.
abbrev pub HasToWaitAt : Span → Held → ℕ → Type 0
HasToWaitAt s h level = HasToWait h (record { level = level; from = s.from; to = s.to })

-- The job of the files that meet the range at the first of its levels where they have not to wait;
-- none just where they have at each.
abbrev pub IsManual : Span → Held → Option Work → Type 0
IsManual s h None = (level : ℕ) → level ≤ s.level → HasToWaitAt s h level
IsManual s h (Some w) = (level : ℕ) × (level ≤ s.level)
    × ((n : ℕ) → n < level → HasToWaitAt s h n) × IsRangePlan h level s.from s.to (plan_in w)

-- the job of the plan that is picked; none just where there is none
abbrev pub IsPicked : Picks → Held → Option Work → Type 0
IsPicked Choice h None = HasNoChoice h.slots.version (reserved_jobs h.live)
IsPicked Choice h (Some w) = IsChosen h (plan_in w)
IsPicked Joining h None = HasNoNext h
IsPicked Joining h (Some w) = IsNext h (plan_in w)
IsPicked Gathering h None = Unit {0}
IsPicked Gathering h (Some w) = ⊥
IsPicked (Manual s) h job = IsManual s h job

-- it stays among the live jobs
abbrev pub IsBooked : Option Work → Held → Held → Type 0
IsBooked None was is = is ≡ was
IsBooked (Some w) was is = is ≡ reserved w was

-- whether a worker who picks so gathers files of level 0
abbrev pub DoesGather : Picks → Type 0
DoesGather Choice = ⊥
DoesGather Joining = Unit {0}
DoesGather Gathering = Unit {0}
DoesGather (Manual s) = ⊥

-- At one taking of the lock, where the fact held, there was nothing to be gathered, where a worker
-- who picks so gathers, and this was picked.
pub record IsPickedUnder (Honest : Type 0) (keeps : Held → Type 0) (picks : Picks)
    (job : Option Work) : Type 0 where
  pub found : Held
  pub kept : ∥ keeps found ∥₁
  pub none_to_gather : DoesGather picks → HasNoneToGather found
  pub picked : Honest → IsPicked picks found job
