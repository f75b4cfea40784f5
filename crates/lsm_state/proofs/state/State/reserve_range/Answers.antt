use Rattle.std.proofs.Common.{◌≡◌, []}
use Rattle.lsm_picker.specs.Reservations.{IsClear}
use Rattle.lsm_picker.specs.TablePlans.{TablePlan, files_over, tables_over}
use Rattle.lsm_live.specs.Reserving.{reserved_jobs}
use Rattle.lsm_state.specs.Held.{Held}
use Rattle.lsm_state.specs.Reserving.{IsPlanAt, IsRangePlan, IsRangeRefusal}
use Rattle.lsm_state.specs.declared.state_fault.StateFault.{StateFault}
use Rattle.lsm_state.proofs.IngestLaws.{err_is}
use Rattle.lsm_state.proofs.ReserveLaws.{if_some, match_some, refused_range}
use Rattle.lsm_state.proofs.state.State.reserve_range.Goals as goal

pub book-requires-clause-stands : goal.book-requires-clause-stands
book-requires-clause-stands g c κs within =
    let p : TablePlan = c.in-Some.plan in
    let at : IsPlanAt c.args.self.now c.args.level p = if_some c.in_ok-plan.field-0 p (IsPlanAt c.args.self.now c.args.level) c.in-Some.is c.in_ok-plan.ensures.plan in at.1

pub book-requires-clause-clear : goal.book-requires-clause-clear
book-requires-clause-clear g c κs within =
    if_some c.in_ok-plan.field-0 c.in-Some.plan (λ (q : TablePlan). IsClear q (reserved_jobs c.args.self.now.live)) c.in-Some.is c.in_ok-plan.ensures.clear

pub book-requires-clause-closed : goal.book-requires-clause-closed
book-requires-clause-closed g c κs within honest =
    let h : Held = c.args.self.now in (
      files_over h.slots.version c.args.level c.args.from.now c.args.to.now,
      match_some c.in_ok-plan.field-0 c.in-Some.plan (tables_over h.slots.version c.args.level c.args.from.now c.args.to.now ≡ []) (IsRangePlan h c.args.level c.args.from.now c.args.to.now) c.in-Some.is
          (c.in_ok-plan.ensures.planned honest),
    )

pub returns-in_err-book-clause-refused : goal.returns-in_err-book-clause-refused
returns-in_err-book-clause-refused g c =
    let h : Held = c.args.self.now in
    let p : TablePlan = c.in-Some.plan in
    let e : StateFault = c.in_err-book.field-0.0 in
    let at : IsPlanAt h c.args.level p = if_some c.in_ok-plan.field-0 p (IsPlanAt h c.args.level) c.in-Some.is c.in_ok-plan.ensures.plan in
    let clear : IsClear p (reserved_jobs h.live) = if_some c.in_ok-plan.field-0 p (λ (q : TablePlan). IsClear q (reserved_jobs h.live)) c.in-Some.is c.in_ok-plan.ensures.clear in
    err_is (IsRangeRefusal g.S.Shelf.honest h c.args.level c.args.from.now c.args.to.now) c.from_residual-in_err-book.result e c.from_residual-in_err-book.ensures.1
    (refused_range g.S.Shelf.honest h c.args.level c.args.from.now c.args.to.now p e c.in_ok-plan.ensures.open.0 c.in_ok-plan.ensures.open.1
    (λ y. match_some c.in_ok-plan.field-0 p (tables_over h.slots.version c.args.level c.args.from.now c.args.to.now ≡ []) (IsRangePlan h c.args.level c.args.from.now c.args.to.now) c.in-Some.is
    (c.in_ok-plan.ensures.planned y))
    clear at c.in_err-book.ensures.refused)
