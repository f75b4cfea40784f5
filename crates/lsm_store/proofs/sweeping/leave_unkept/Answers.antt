use Rattle.std.proofs.Common.{inl, inr}
use Rattle.lsm_store.proofs.SweepLaws.{step_looked, step_looked_or_not}
use Rattle.lsm_store.proofs.sweeping.leave_unkept.Goals as goal

pub returns-in-Ok : goal.returns-in-Ok
returns-in-Ok g c = record {
  step = step_looked g.S.Shelf.honest c.args.state.now c.leave_unkept.new.self c.in-Ok.ensures.rest c.in-Ok.ensures.event c.in-Ok.ensures.ok.1;
  left = inl c.in-Ok.ensures.ok.2;
}

pub returns-in-Err : goal.returns-in-Err
returns-in-Err g c = record {
  step = step_looked_or_not g.S.Shelf.honest c.args.state.now c.leave_unkept.new.self c.in-Err.field-0 c.in-Err.ensures.rest c.in-Err.ensures.event c.in-Err.ensures.refused;
  left = inr c.clear.ensures.items;
}
