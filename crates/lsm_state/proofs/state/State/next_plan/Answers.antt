use Rattle.lsm_picker.specs.Choice.{HasNoChoice}
use Rattle.lsm_picker.specs.TablePlans.{TablePlan}
use Rattle.lsm_live.specs.Reserving.{reserved_jobs}
use Rattle.lsm_state.specs.Held.{Held}
use Rattle.lsm_state.specs.Reserving.{GoesBefore, IsChosen, NoneGoesBefore, WaitsForOthers}
use Rattle.lsm_state.proofs.ReserveLaws.{match_none, match_some, next_chosen, next_before}
use Rattle.lsm_state.proofs.ReserveLaws.{next_waits}
use Rattle.lsm_state.proofs.state.State.next_plan.Goals as goal

pub returns-in-Some-2-clause-next : goal.returns-in-Some-2-clause-next
returns-in-Some-2-clause-next g c honest =
    let h : Held = c.args.self.now in
    let chosen : TablePlan = c.in-Some.chosen in
    let is : IsChosen h chosen = match_some c.in_ok-chosen.field-0 chosen (HasNoChoice h.slots.version (reserved_jobs h.live)) (IsChosen h) c.in-Some.is (c.in_ok-chosen.ensures.chosen honest) in
    let late = c.goes_at_once.ensures.waits c.if-goes_at_once.false in
    let waits : WaitsForOthers h chosen =
    record { chosen = is; level = late.0; no_move = late.1 } in
    next_before h chosen c.in-Some-2.plan waits
    (match_some c.in_ok-plan.field-0 c.in-Some-2.plan (NoneGoesBefore h)
    (GoesBefore h) c.in-Some-2.is (c.in_ok-plan.ensures.before honest))

pub returns-then-not-branch-clause-next : goal.returns-then-not-branch-clause-next
returns-then-not-branch-clause-next g c honest =
    let h : Held = c.args.self.now in
    let chosen : TablePlan = c.in-Some.chosen in
    let is : IsChosen h chosen = match_some c.in_ok-chosen.field-0 chosen (HasNoChoice h.slots.version (reserved_jobs h.live)) (IsChosen h) c.in-Some.is (c.in_ok-chosen.ensures.chosen honest) in
    let late = c.goes_at_once.ensures.waits c.if-goes_at_once.false in
    let waits : WaitsForOthers h chosen =
    record { chosen = is; level = late.0; no_move = late.1 } in
    let none : NoneGoesBefore h =
    match_none c.in_ok-plan.field-0 (NoneGoesBefore h) (GoesBefore h) c.in_default-2.not-Some
    (c.in_ok-plan.ensures.before honest) in
    next_waits h chosen none waits (λ ready. (let yes = c.in_ok-is_ready.ensures.1 ready in let no_test = c.if-not-branch.true in absurd (cc (yes, no_test))))

pub returns-clause-next : goal.returns-clause-next
returns-clause-next g c honest =
    let h : Held = c.args.self.now in
    let chosen : TablePlan = c.in-Some.chosen in
    let is : IsChosen h chosen = match_some c.in_ok-chosen.field-0 chosen (HasNoChoice h.slots.version (reserved_jobs h.live)) (IsChosen h) c.in-Some.is (c.in_ok-chosen.ensures.chosen honest) in
    let none : NoneGoesBefore h =
    match_none c.in_ok-plan.field-0 (NoneGoesBefore h) (GoesBefore h) c.in_default-2.not-Some
    (c.in_ok-plan.ensures.before honest) in
    next_chosen h chosen none is (c.in_ok-is_ready.ensures.0 c.if-not-branch.false)
