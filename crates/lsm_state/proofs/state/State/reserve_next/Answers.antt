use Rattle.std.proofs.Common.{sym, subst}
use Rattle.lsm_picker.specs.TablePlans.{TablePlan}
use Rattle.lsm_state.specs.Held.{Held}
use Rattle.lsm_state.specs.Reserving.{HasNoNext, IsNext}
use Rattle.lsm_state.proofs.ReserveLaws.{match_none, match_some}
use Rattle.lsm_state.proofs.state.State.reserve_next.Goals as goal

pub returns-clause-next : goal.returns-clause-next
returns-clause-next g c honest =
    let h : Held = c.args.self.now in
    let p : TablePlan = c.in-Some.plan in
    let next : IsNext h p = match_some c.in_ok-plan.field-0 p (HasNoNext h) (IsNext h) c.in-Some.is (c.in_ok-plan.ensures.next honest) in
    subst (IsNext h) (sym c.in_ok-book.ensures.plan) next

pub returns-in_default-clause-next : goal.returns-in_default-clause-next
returns-in_default-clause-next g c honest =
    let h : Held = c.args.self.now in
    match_none c.in_ok-plan.field-0 (HasNoNext h) (IsNext h) c.in_default.not-Some
    (c.in_ok-plan.ensures.next honest)
