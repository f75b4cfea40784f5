use Rattle.std.proofs.Common.{◌≡◌, ◌≤◌, List, [], false, ap, sym, subst, ◌∙◌}
use Rattle.lsm_codec.specs.Lists.{Has}
use Rattle.lsm_version.specs.Versions.{Levels}
use Rattle.lsm_picker.specs.Reservations.{IsClear, IsLeastConflict, Reserved}
use Rattle.lsm_picker.specs.TablePlans.{IsPlanFrom, StandsIn, TablePlan, files_over, tables_over}
use Rattle.lsm_live.specs.Reserving.{reserved_jobs}
use Rattle.lsm_state.specs.Held.{Held}
use Rattle.lsm_state.proofs.ReserveLaws.{if_some, match_some, planned_at, refused_conflict}
use Rattle.lsm_state.proofs.state.State.range_plan.Goals as goal

pub returns-in-Some-conflict-clause-refused : goal.returns-in-Some-conflict-clause-refused
returns-in-Some-conflict-clause-refused g c =
    let h : Held = c.args.self.now in
    let v : Levels = c.version-version.result.now in
    let rs : List Reserved = c.deref-4.result.now in
    let p : TablePlan = c.in-Some.plan in
    let at : v ≡ h.slots.version = c.version-version.ensures.version ∙ ap (λ (x : Held). x.slots.version) c.self.view_is in
    let live : rs ≡ reserved_jobs h.live = c.deref-4.ensures.value ∙ (c.in_ok-reservations.ensures ∙ ap (λ (x : Held). reserved_jobs x.live) c.self.view_is) in
    let going : h.halted ≡ false = ap (λ (x : Held). x.halted) (sym c.self.view_is) ∙ c.if-self.false in
    let stands : StandsIn v p = if_some c.in_ok-plan.field-0 p (StandsIn v) c.in-Some.is c.in_ok-plan.ensures.stands in
    let level : p.level ≡ c.args.level = if_some c.in_ok-plan.field-0 p (λ (q : TablePlan). q.level ≡ c.args.level) c.in-Some.is c.in_ok-plan.ensures.level in
    let found : IsLeastConflict p rs c.in-Some-conflict.ticket = match_some c.conflict.result c.in-Some-conflict.ticket (IsClear p rs) (IsLeastConflict p rs) c.in-Some-conflict.is c.conflict.ensures in
    refused_conflict g.S.Shelf.honest h c.args.level c.args.from.now c.args.to.now p rs c.in-Some-conflict.ticket going (subst (λ n. n ≤ 5) level stands.level)
    (λ y. planned_at h v c.args.level c.args.from.now c.args.to.now p at
    (match_some c.in_ok-plan.field-0 p (tables_over v c.args.level c.args.from.now c.args.to.now ≡ []) (λ (q : TablePlan). IsPlanFrom v (Has (files_over v c.args.level c.args.from.now c.args.to.now)) q) c.in-Some.is (c.in_ok-plan.ensures.planned y)))
    live found (level, subst (λ (x : Levels). StandsIn x p) at stands)

pub returns-clause-planned : goal.returns-clause-planned
returns-clause-planned g c honest =
    let h : Held = c.args.self.now in
    let v : Levels = c.version-version.result.now in
    let p : TablePlan = c.in-Some.plan in
    planned_at h v c.args.level c.args.from.now c.args.to.now p (c.version-version.ensures.version ∙ ap (λ (x : Held). x.slots.version) c.self.view_is)
    (match_some c.in_ok-plan.field-0 p (tables_over v c.args.level c.args.from.now c.args.to.now ≡ []) (λ (q : TablePlan). IsPlanFrom v (Has (files_over v c.args.level c.args.from.now c.args.to.now)) q) c.in-Some.is (c.in_ok-plan.ensures.planned honest))

pub returns-clause-plan : goal.returns-clause-plan
returns-clause-plan g c =
    let v : Levels = c.version-version.result.now in
    let p : TablePlan = c.in-Some.plan in
    let stands : StandsIn v p = if_some c.in_ok-plan.field-0 p (StandsIn v) c.in-Some.is c.in_ok-plan.ensures.stands in
    let level : p.level ≡ c.args.level = if_some c.in_ok-plan.field-0 p (λ (q : TablePlan). q.level ≡ c.args.level) c.in-Some.is c.in_ok-plan.ensures.level in
    (level, subst (λ (x : Levels). StandsIn x p) (c.version-version.ensures.version ∙ ap (λ (x : Held). x.slots.version) c.self.view_is) stands)

pub returns-clause-clear : goal.returns-clause-clear
returns-clause-clear g c =
    let live : c.deref-4.result.now ≡ reserved_jobs c.args.self.now.live = c.deref-4.ensures.value ∙ (c.in_ok-reservations.ensures ∙ ap (λ (x : Held). reserved_jobs x.live) c.self.view_is) in
    subst (IsClear c.in-Some.plan) live c.in_default-conflict.ensures
