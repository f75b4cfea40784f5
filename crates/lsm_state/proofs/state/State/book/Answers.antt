use Rattle.std.proofs.Common.{◌≡◌, suc, ◌+◌, [], ◌∷◌, ◌++◌, ◌∙◌, ap, sym, subst, arith}
use Rattle.lsm_picker.specs.Reservations.{IsClear}
use Rattle.lsm_picker.specs.TablePlans.{StandsIn, TablePlan}
use Rattle.lsm_merge.specs.Work.{Work}
use Rattle.lsm_live.specs.Booked.{new_booked}
use Rattle.lsm_live.specs.Reserving.{reserved_jobs}
use Rattle.lsm_state.specs.Held.{Held}
use Rattle.lsm_state.specs.Reserving.{IsClosedPlan, IsOfMoment, IsReserving, reserved}
use Rattle.lsm_state.proofs.ReserveLaws.{booked_is, booked_reserves, lawful_booked, lawful_reserved, newest_kept}
use Rattle.lsm_state.proofs.state.State.book.Goals as goal

pub add-requires-clause-newest : goal.add-requires-clause-newest
add-requires-clause-newest g c κs within =
    let h : Held = record { options = c.self.inside.options; slots = c.self.inside.slots; snapshots = c.self.inside.snapshots; next = c.self.inside.next; next_ticket = c.self.inside.next_ticket; live = c.self.inside.live; journal = c.self.inside.journal; halted = c.self.inside.halted; pinners = c.self.inside.pinners.items; history = c.self.inside.keeper.entries } in
    newest_kept g.S.Shelf.honest h c.in_ok-job.job c.in_ok-kept.kept c.self.invariant.0.law (subst (λ (x : Held). IsOfMoment x c.in_ok-job.job) (sym c.self.view_is) c.in_ok-job.ensures.moment) c.in_ok-kept.ensures

pub invariant_of-self-2 : goal.invariant_of-self-2
invariant_of-self-2 g c =
    let h : Held = record { options = c.self.inside.options; slots = c.self.inside.slots; snapshots = c.self.inside.snapshots; next = c.self.inside.next; next_ticket = c.self.inside.next_ticket; live = c.self.inside.live; journal = c.self.inside.journal; halted = c.self.inside.halted; pinners = c.self.inside.pinners.items; history = c.self.inside.keeper.entries } in
    let w : Work = c.in_ok-job.job in
    let more : c.self.inside.next_ticket + 1 ≡ suc h.next_ticket = omega arith in
    let stands = subst (λ (x : Held). StandsIn x.slots.version c.args.plan) (sym c.self.view_is) c.requires.stands in
    let step : IsReserving g.S.Shelf.honest h w (reserved w h) = booked_reserves g.S.Shelf.honest h w c.args.plan c.inputs_are_of_the_version.ensures c.conflicts_are_those_of_jobs.ensures
    (subst (λ (x : Held). IsOfMoment x w) (sym c.self.view_is) c.in_ok-job.ensures.moment) c.in_ok-job.ensures.plan stands
    (subst (λ (x : Held). IsClear c.args.plan (reserved_jobs x.live)) (sym c.self.view_is) c.requires.clear) (λ y. subst (λ (x : Held). IsClosedPlan x c.args.plan) (sym c.self.view_is) (c.requires.closed y)) in (
      lawful_booked g.S.Shelf.honest g.N.Boarded.board h w c.add.new.self (c.self.inside.next_ticket + 1)
          (c.in_ok-add.ensures.ok ∙ ap (λ (x : Work). h.live ++ new_booked x ∷ []) c.in_ok-kept.ensures) more
          (lawful_reserved g.S.Shelf.honest g.N.Boarded.board h w c.self.invariant.0 step (subst (λ (p : TablePlan). StandsIn h.slots.version p) (sym c.in_ok-job.ensures.plan) stands)),
      c.self.invariant.1,
    )

pub returns-clause-event : goal.returns-clause-event
returns-clause-event g c =
    let h : Held = record { options = c.self.inside.options; slots = c.self.inside.slots; snapshots = c.self.inside.snapshots; next = c.self.inside.next; next_ticket = c.self.inside.next_ticket; live = c.self.inside.live; journal = c.self.inside.journal; halted = c.self.inside.halted; pinners = c.self.inside.pinners.items; history = c.self.inside.keeper.entries } in
    let w : Work = c.in_ok-job.job in
    let more : c.self.inside.next_ticket + 1 ≡ suc h.next_ticket = omega arith in
    let stands = subst (λ (x : Held). StandsIn x.slots.version c.args.plan) (sym c.self.view_is) c.requires.stands in
    let step : IsReserving g.S.Shelf.honest h w (reserved w h) = booked_reserves g.S.Shelf.honest h w c.args.plan c.inputs_are_of_the_version.ensures c.conflicts_are_those_of_jobs.ensures
    (subst (λ (x : Held). IsOfMoment x w) (sym c.self.view_is) c.in_ok-job.ensures.moment) c.in_ok-job.ensures.plan stands
    (subst (λ (x : Held). IsClear c.args.plan (reserved_jobs x.live)) (sym c.self.view_is) c.requires.clear) (λ y. subst (λ (x : Held). IsClosedPlan x c.args.plan) (sym c.self.view_is) (c.requires.closed y)) in
    subst (λ (x : Held). IsReserving g.S.Shelf.honest x w (record h { live = c.add.new.self; next_ticket = c.self.inside.next_ticket + 1 })) c.self.view_is
    (subst (λ (x : Held). IsReserving g.S.Shelf.honest h w x) (sym (booked_is h w c.add.new.self (c.self.inside.next_ticket + 1) (c.in_ok-add.ensures.ok ∙ ap (λ (x : Work). h.live ++ new_booked x ∷ []) c.in_ok-kept.ensures) more)) step)
