-- All that is due is compacted, by the commands of a script (this project's rule).
use Rattle.std.specs.Prelude.{◌≡◌, ◌⊎◌, ℕ, suc, zero, ◌-◌, ◌^◌, ◌≤◌, ⊤}
use Rattle.lsm_state.specs.declared.state_fault.StateFault.TheVariants.{OutOfMemory}
use Rattle.lsm_script.specs.Steps.{IsStep, Stage}
use Rattle.lsm_script.specs.declared.command.Command.{Command}
use Rattle.lsm_script.specs.declared.command.Command.TheVariants.{Reserve, Merge, Install, Cancel}
use Rattle.lsm_script.specs.declared.command.Command.TheVariants.{Collect}
use Rattle.lsm_script.specs.declared.command_fault.CommandFault.{CommandFault}
use Rattle.lsm_script.specs.declared.command_fault.CommandFault.TheVariants.{State}
use Rattle.lsm_script.specs.declared.reply.Reply.{Reply}
use Rattle.lsm_script.specs.declared.reply.Reply.TheVariants.{Job, Move, Refused}

abbrev pub IsNoRefusal : Reply → Type 0
IsNoRefusal (Refused e) = ⊥
IsNoRefusal reply = ⊤

-- a compaction was reserved under this ticket
abbrev pub Reserves : Reply → ℕ → Type 0
Reserves (Job r) ticket = r.ticket ≡ ticket
Reserves (Move r) ticket = r.ticket ≡ ticket
Reserves reply ticket = ⊥

-- the command was done, and not refused
abbrev pub Does : Type 0 → Command → Stage → Stage → Type 0
Does honest c s t = (r : Reply) × IsStep honest c r s t × IsNoRefusal r

-- it was refused so
abbrev pub Fails : Type 0 → Command → CommandFault → Stage → Stage → Type 0
Fails honest c e s t = IsStep honest c (Refused e) s t

-- ---- one compaction

-- what is due was reserved under this ticket
abbrev pub IsReserved : Type 0 → ℕ → Stage → Stage → Type 0
IsReserved honest ticket s t = (r : Reply) × IsStep honest Reserve r s t × Reserves r ticket

-- nothing is due
abbrev pub NoneIsDue : Type 0 → Stage → Stage → Type 0
NoneIsDue honest s t = (r : Reply) × IsStep honest Reserve r s t × IsNoRefusal r
    × ((ticket : ℕ) → Reserves r ticket → ⊥)

-- the job of the ticket was merged and installed
abbrev pub IsFinished : Type 0 → ℕ → Stage → Stage → Type 0
IsFinished honest ticket s t =
    (mid : Stage) × Does honest (Merge ticket) s mid × Does honest (Install ticket) mid t

-- its merge was refused, or its install
abbrev pub IsUnfinished : Type 0 → ℕ → CommandFault → Stage → Stage → Type 0
IsUnfinished honest ticket e s t =
    Fails honest (Merge ticket) e s t
    ⊎ ((mid : Stage) × Does honest (Merge ticket) s mid × Fails honest (Install ticket) e mid t)

-- then it was cancelled
abbrev pub IsGivenUp : Type 0 → ℕ → CommandFault → Stage → Stage → Type 0
IsGivenUp honest ticket e s t =
    (mid : Stage) × (r : Reply) × IsUnfinished honest ticket e s mid
    × IsStep honest (Cancel ticket) r mid t

-- what was due was reserved, merged and installed
abbrev pub IsRound : Type 0 → Stage → Stage → Type 0
IsRound honest s t = (ticket : ℕ) × (mid : Stage) × IsReserved honest ticket s mid
    × IsFinished honest ticket mid t

-- it was refused, and nothing is reserved any more
abbrev pub IsRefusedRound : Type 0 → CommandFault → Stage → Stage → Type 0
IsRefusedRound honest e s t = Fails honest Reserve e s t
    ⊎ ((ticket : ℕ) × (mid : Stage) × IsReserved honest ticket s mid
    × IsGivenUp honest ticket e mid t)

-- ---- one after another

-- so many compactions
abbrev pub AreRounds : Type 0 → ℕ → Stage → Stage → Type 0
AreRounds honest zero s t = t ≡ s
AreRounds honest (suc n) s t = (mid : Stage) × AreRounds honest n s mid × IsRound honest mid t

-- So many, until nothing was due; and what nothing needs was removed.
pub record IsCompacted (honest : Type 0) (n : ℕ) (s t : Stage) : Type 0 where
  pub last : Stage
  pub idle : Stage
  pub rounds : AreRounds honest n s last
  pub none : NoneIsDue honest last idle
  pub collected : Does honest Collect idle t

-- Why it ends before that, behind some: the next one was refused; or nothing was due, and the
-- removals were refused; or there are more than are counted.
abbrev pub Ends : Type 0 → ℕ → CommandFault → Stage → Stage → Type 0
Ends honest n e s t =
    IsRefusedRound honest e s t
    ⊎ (((idle : Stage) × NoneIsDue honest s idle × Fails honest Collect e idle t)
    ⊎ ((2 ^ 64 - 1 ≤ n) × (e ≡ State OutOfMemory) × (t ≡ s)))

pub record IsUncompacted (honest : Type 0) (e : CommandFault) (s t : Stage) : Type 0 where
  pub count : ℕ
  pub last : Stage
  pub rounds : AreRounds honest count s last
  pub ends : Ends honest count e last t
