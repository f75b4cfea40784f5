-- Compactions, one after another.
use Rattle.std.proofs.Common.{◌≡◌, ℕ, ◌+◌, ◌-◌, ◌^◌, ◌≤◌, refl, sym, subst, inl, inr, add-one, IfErr, IfOk, OnOk}
use Rattle.std.specs.Prelude.{Result, Ok, Err}
use Rattle.lsm_state.specs.declared.state_fault.StateFault.TheVariants.{OutOfMemory}
use Rattle.lsm_script.specs.Steps.{IsStep, Stage}
use Rattle.lsm_script.specs.declared.command.Command.TheVariants.{Reserve, Merge, Install, Collect}
use Rattle.lsm_script.specs.declared.command_fault.CommandFault.{CommandFault}
use Rattle.lsm_script.specs.declared.command_fault.CommandFault.TheVariants.{State}
use Rattle.lsm_script.specs.declared.reply.Reply.{Reply}
use Rattle.lsm_script.specs.declared.reply.Reply.TheVariants.{Refused}
use Rattle.lsm_cmd_shell.specs.Rounds.{AreRounds, Does, Fails, IsCompacted, IsFinished, IsGivenUp, IsNoRefusal, IsRefusedRound, IsRound, IsUncompacted, IsUnfinished, NoneIsDue, Reserves}

pub installed : (honest : Type 0) (ticket : ℕ) (r : Result (Unit {0}) CommandFault) (s m t : Stage) → Does honest (Merge ticket) s m → OnOk r (Does honest (Install ticket) m t) → OnOk r (IsFinished honest ticket s t)
installed honest ticket (Ok x) s m t merged done = (m, merged, done)
installed honest ticket (Err e) s m t merged done = tt

pub uninstalled : (honest : Type 0) (ticket : ℕ) (r : Result (Unit {0}) CommandFault) (s m t : Stage) → Does honest (Merge ticket) s m → IfErr r (λ e. Fails honest (Install ticket) e m t)
    → IfErr r (λ e. IsUnfinished honest ticket e s t)
uninstalled honest ticket (Ok x) s m t merged not = tt
uninstalled honest ticket (Err e) s m t merged not = inr (m, merged, not)

-- by the reply to the reservation
pub reserve_refused : (honest : Type 0) (reply : Reply) (e : CommandFault) (s t : Stage) → reply ≡ Refused e → IsStep honest Reserve reply s t → IsRefusedRound honest e s t
reserve_refused honest reply e s t is step = inl (subst (λ (r : Reply). IsStep honest Reserve r s t) is step)

pub round_done : (honest : Type 0) (reply reserved : Reply) (ticket : ℕ) (s m t : Stage) → reserved ≡ reply → IsStep honest Reserve reply s m → Reserves reserved ticket → IsFinished honest ticket m t
    → IsRound honest s t
round_done honest reply reserved ticket s m t same step named done = (ticket, m, (reply, step, subst (λ (r : Reply). Reserves r ticket) same named), done)

pub round_refused : (honest : Type 0) (reply reserved : Reply) (ticket : ℕ) (e : CommandFault) (s m t : Stage) → reserved ≡ reply → IsStep honest Reserve reply s m → Reserves reserved ticket
    → IsGivenUp honest ticket e m t → IsRefusedRound honest e s t
round_refused honest reply reserved ticket e s m t same step named given = inr (ticket, m, (reply, step, subst (λ (r : Reply). Reserves r ticket) same named), given)

pub none_due : (honest : Type 0) (reply reserved : Reply) (s t : Stage) → reserved ≡ reply → IsStep honest Reserve reply s t → IsNoRefusal reserved → ((ticket : ℕ) → Reserves reserved ticket → ⊥) → NoneIsDue honest s t
none_due honest reply reserved s t same step well none =
    (reply, step, subst IsNoRefusal same well, subst (λ (r : Reply). (ticket : ℕ) → Reserves r ticket → ⊥) same none)

pub one_round_more : (honest : Type 0) (n : ℕ) (s m t : Stage) → AreRounds honest n s m → IsRound honest m t → AreRounds honest (n + 1) s t
one_round_more honest n s m t h k = subst (λ (x : ℕ). AreRounds honest x s t) (sym (add-one n)) (m, h, k)

pub collected : (honest : Type 0) (n : ℕ) (s last idle t : Stage) (swept : Result (Unit {0}) CommandFault) (r : Result ℕ CommandFault) → AreRounds honest n s last → NoneIsDue honest last idle
    → OnOk swept (Does honest Collect idle t) → OnOk swept (r ≡ Ok n) → IfErr swept (λ e. r ≡ Err e) → IfOk r (λ k. IsCompacted honest k s t)
collected honest n s last idle t (Ok x) r rounds none done ok err =
    subst (λ (u : Result ℕ CommandFault). IfOk u (λ k. IsCompacted honest k s t)) (sym ok) (record { last = last; idle = idle; rounds = rounds; none = none; collected = done })
collected honest n s last idle t (Err e) r rounds none done ok err = subst (λ (u : Result ℕ CommandFault). IfOk u (λ k. IsCompacted honest k s t)) (sym err) tt

pub uncollected : (honest : Type 0) (n : ℕ) (s last idle t : Stage) (swept : Result (Unit {0}) CommandFault) (r : Result ℕ CommandFault) → AreRounds honest n s last → NoneIsDue honest last idle
    → IfErr swept (λ e. Fails honest Collect e idle t) → OnOk swept (r ≡ Ok n) → IfErr swept (λ e. r ≡ Err e) → IfErr r (λ e. IsUncompacted honest e s t)
uncollected honest n s last idle t (Ok x) r rounds none not ok err = subst (λ (u : Result ℕ CommandFault). IfErr u (λ e. IsUncompacted honest e s t)) (sym ok) tt
uncollected honest n s last idle t (Err e) r rounds none not ok err =
    subst (λ (u : Result ℕ CommandFault). IfErr u (λ e. IsUncompacted honest e s t)) (sym err) (record { count = n; last = last; rounds = rounds; ends = inr (inl (idle, none, not)) })

pub refused : (honest : Type 0) (n : ℕ) (e : CommandFault) (s last t : Stage) → AreRounds honest n s last → IsRefusedRound honest e last t → IsUncompacted honest e s t
refused honest n e s last t rounds not = record { count = n; last = last; rounds = rounds; ends = inl not }

pub endless : (honest : Type 0) (n : ℕ) (s t : Stage) → AreRounds honest n s t → 2 ^ 64 - 1 ≤ n → IsUncompacted honest (State OutOfMemory) s t
endless honest n s t rounds many = record { count = n; last = t; rounds = rounds; ends = inr (inr (many, refl, refl)) }
