use Rattle.std.proofs.Common.{◌≡◌, ◌-◌, ◌^◌, false, List, subst, inl}
use Rattle.lsm_picker.specs.Reservations.{IsClear}
use Rattle.lsm_live.specs.Reserving.{reserved_jobs}
use Rattle.lsm_merge.specs.Work.{Work}
use Rattle.lsm_state.specs.Reserving.{IsOfMoment, IsRangePlan, IsReserving, plan_in, reserved}
use Rattle.lsm_script.specs.Replies.{IsKeepReply}
use Rattle.lsm_script.proofs.Elements.{kept_live, match_at, some_at}
use Rattle.lsm_script.proofs.reserving.reserve_range.Goals as goal

pub keep-requires-clause-live : goal.keep-requires-clause-live
keep-requires-clause-live g c κs within = kept_live c.args.state.now c.reserve_range.new.self c.in-Ok.found c.in-Some.job c.in-Some.is c.in-Ok.ensures.ok

pub returns : goal.returns
returns g c =
    let H = g.S.Shelf.honest in
    let old = c.args.state.now in
    let mid = c.reserve_range.new.self in
    let o = c.in-Ok.found in
    let w = c.in-Some.job in
    let e = c.in-Some.is in inl record {
      work = w;
      mid = mid;
      its = record {
        planned = λ y. match_at _ (λ (v : Work). IsRangePlan old c.args.level c.args.from.now c.args.to.now (plan_in v)) o w e (c.in-Ok.ensures.planned y);
        level_is = some_at (λ (v : Work). v.level ≡ c.args.level) o w e c.in-Ok.ensures.level;
        low = c.in-Ok.ensures.open.1;
        stays = some_at (λ (v : Work). v.is_move ≡ false) o w e c.in-Ok.ensures.no_move;
        clear = some_at (λ (v : Work). IsClear (plan_in v) (reserved_jobs old.live)) o w e c.in-Ok.ensures.clear;
      };
      gains = record {
        going = c.in-Ok.ensures.open.0;
        moment = some_at (λ (v : Work). IsOfMoment old v) o w e c.in-Ok.ensures.moment;
        is = some_at (λ (v : Work). mid ≡ reserved v old) o w e c.in-Ok.ensures.ok;
        event = some_at (λ (v : Work). IsReserving H old v mid) o w e c.in-Ok.ensures.event;
        unspent = some_at (λ (v : Work). v.ticket ≡ 2 ^ 64 - 1 → ⊥) o w e c.in-Ok.ensures.unspent;
      };
      kept = subst (λ (l : List Work). IsKeepReply w c.keep.result mid c.keep.new.state l c.keep.new.jobs.items) c.reserve.ensures.items c.keep.ensures.kept;
    }
