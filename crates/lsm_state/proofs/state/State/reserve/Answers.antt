use Rattle.std.proofs.Common.{refl, sym, subst}
use Rattle.lsm_picker.specs.Choice.{HasNoChoice}
use Rattle.lsm_picker.specs.TablePlans.{TablePlan}
use Rattle.lsm_live.specs.Reserving.{reserved_jobs}
use Rattle.lsm_state.specs.Held.{Held}
use Rattle.lsm_state.specs.Reserving.{IsChosen, IsReserveRefusal}
use Rattle.lsm_state.specs.declared.state_fault.StateFault.{StateFault}
use Rattle.lsm_state.proofs.ReserveLaws.{closed_choice, if_err, match_some, refused_choice}
use Rattle.lsm_state.proofs.state.State.reserve.Goals as goal

pub book-requires-clause-closed : goal.book-requires-clause-closed
book-requires-clause-closed g c κs within honest =
    let h : Held = c.args.self.now in
    let p : TablePlan = c.in-Some.plan in
    let chosen : IsChosen h p = match_some c.in_ok-plan.field-0 p (HasNoChoice h.slots.version (reserved_jobs h.live)) (IsChosen h) c.in-Some.is (c.in_ok-plan.ensures.chosen honest) in
    closed_choice h h.slots.version (reserved_jobs h.live) p refl chosen

pub returns-in_err-book-clause-refused : goal.returns-in_err-book-clause-refused
returns-in_err-book-clause-refused g c =
    let h : Held = c.args.self.now in
    let p : TablePlan = c.in-Some.plan in
    let e : StateFault = c.in_err-book.field-0.0 in
    let refused : IsReserveRefusal g.S.Shelf.honest h e = refused_choice g.S.Shelf.honest h p e c.in_ok-plan.ensures.open
    (λ y. match_some c.in_ok-plan.field-0 p (HasNoChoice h.slots.version (reserved_jobs h.live)) (IsChosen h) c.in-Some.is (c.in_ok-plan.ensures.chosen y)) c.in_err-book.ensures.refused in
    if_err c.from_residual-in_err-book.result _ (IsReserveRefusal g.S.Shelf.honest h) c.from_residual-in_err-book.ensures.1 (λ f k. subst (IsReserveRefusal g.S.Shelf.honest h) (sym k) refused)
