use Rattle.std.proofs.Common.{arith}
use Rattle.std.specs.Vec.Iter.{into_iter_items}
use Rattle.lsm_store.proofs.SeatLaws.{one_more}
use Rattle.lsm_store.proofs.workers.ends_of.Goals as goal

pub loop-back-preserved : goal.loop-back-preserved
loop-back-preserved g c =
    let before = c.loop-back.invariant in
    let back = c.in-Some.back in
    let step = c.in-Some.ensures.steps in
    let longer = c.in-Ok.ensures.len in
    let wider = c.in-Ok.ensures.capacity in
    let room = before.room in
    let wide = before.wide in
    let all = before.all in
    let first = step.0 in
    let fewer = step.1 in
    record {
      room = omega arith;
      wide = omega arith;
      all = omega arith;
      ends = one_more (λ r. r.0) c.loop-back.ends.items c.push.new.self.items (into_iter_items c.loop-back.back-iterator) (into_iter_items c.next.new.self) back _ before.ends first c.in-Ok.ensures.items;
    }
